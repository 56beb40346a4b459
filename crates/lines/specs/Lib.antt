pub mod Opening
pub mod Output
pub mod Parts
