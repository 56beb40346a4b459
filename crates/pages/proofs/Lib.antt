pub mod Rows
pub mod Fronts
pub mod Decided
pub mod Carries
pub mod Progress
pub mod Only
pub mod Refusals
pub mod Endings
pub mod CarryBytes
mod Lengths
mod Stored
mod Deciding
mod Table
