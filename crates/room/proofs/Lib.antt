pub mod Counts
mod Turns
mod Decides
pub mod Only
