pub mod Reach
pub mod Hit
pub mod Answer
pub mod Smallest
mod Places
mod Meeting
mod Trees
mod Steps
mod Whole
