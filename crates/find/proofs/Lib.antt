pub mod Lookup
mod Descent
