pub mod Sets
pub mod Putting
pub mod Filling
pub mod Back
pub mod Known
