pub mod Decimals
pub mod Position
