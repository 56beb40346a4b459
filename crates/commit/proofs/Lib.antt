pub mod Storing
mod Turns
mod Whole
