pub mod Lookups
pub mod Statuses
pub mod After
pub mod Melds
pub mod Lists
