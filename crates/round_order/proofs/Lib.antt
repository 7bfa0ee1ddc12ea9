pub mod Quiet
pub mod Agree
pub mod Differ
