pub mod Decimal
pub mod Window
pub mod Told
pub mod Seeking
pub mod Asked
pub mod Numbers
pub mod Flaws
