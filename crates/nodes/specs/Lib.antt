pub mod Nodes
pub mod Mended
pub mod Runs
pub mod Laws
