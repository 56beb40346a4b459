pub mod Writer
pub mod Stored
