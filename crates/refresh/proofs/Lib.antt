mod Copies
pub mod NewSnapshot
mod Asks
mod Returns
pub mod Output
pub mod Only
pub mod Again
pub mod Pools
