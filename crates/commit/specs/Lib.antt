pub mod Applied
pub mod Commit
