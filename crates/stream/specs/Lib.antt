pub mod Buffer
pub mod Turns
pub mod Runs
