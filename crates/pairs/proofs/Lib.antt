mod PairLaws
mod PairReadLaws
pub mod Only
pub mod Filled
