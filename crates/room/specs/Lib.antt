pub mod Tally
pub mod Room
