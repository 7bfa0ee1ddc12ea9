pub mod Tying
pub mod Whole
