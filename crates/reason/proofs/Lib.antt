pub mod Above
pub mod Apart
pub mod Only
mod Touching
mod Explaining
mod Whole
