pub mod Old
pub mod Drop
pub mod Spot
