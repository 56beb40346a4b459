pub mod Joined
pub mod ByKey
pub mod Joiner
pub mod Left
pub mod ScanSteps
pub mod PointSteps
pub mod Passes
