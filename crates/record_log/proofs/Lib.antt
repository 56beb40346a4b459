mod Cases
mod Handed
pub mod Lengths
pub mod Stands
pub mod Told
pub mod Same
pub mod Walk
pub mod Step
pub mod CutLog
pub mod Between
pub mod Before
pub mod Only
