pub mod Collect
pub mod Ccrt
