pub mod Plan
pub mod Image
pub mod Subtree
pub mod Frame
pub mod Times
