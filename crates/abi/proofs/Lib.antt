mod Carried
mod InForce
pub mod Only
pub mod Apart
