pub mod Log
pub mod Walk
pub mod PartSized
pub mod Before
