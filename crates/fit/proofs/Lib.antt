mod Tests
mod InnerTests
mod LeavesLaws
mod Sound
mod Complete
mod FreeLaws
mod HeadLaws
mod Means
pub mod Promises
pub mod Decided
