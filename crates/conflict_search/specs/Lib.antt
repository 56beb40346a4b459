pub mod Sorted
pub mod Conflict
pub mod Cursor
pub mod Search
pub mod Smallest
