pub mod Parts
pub mod Tested
