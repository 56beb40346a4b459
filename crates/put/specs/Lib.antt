pub mod Values
pub mod Storing
pub mod Writes
pub mod Places
pub mod Asks
