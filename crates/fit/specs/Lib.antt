pub mod Check
pub mod Whole
