pub mod Carried
pub mod Apart
pub mod Only
