pub mod Refreshed
