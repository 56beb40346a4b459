pub mod Openings
pub mod Limits
mod Calling
pub mod Parted
