pub mod Telling
pub mod Turning
pub mod Running
pub mod Closings
pub mod Paged
