pub mod Answer
pub mod Record
pub mod Parse
pub mod Steps
pub mod Reader
pub mod Before
