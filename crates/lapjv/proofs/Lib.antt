pub mod Whole
pub mod Lent
