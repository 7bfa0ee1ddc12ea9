pub mod Matching
pub mod Associate
pub mod Passes
pub mod Paired
pub mod Cells
pub mod Split
pub mod Lent
