pub mod AfterState
pub mod Judging
mod Settled
mod Verdicts
pub mod Lookups
mod Statuses
pub mod Readings
pub mod Whole
pub mod Only
