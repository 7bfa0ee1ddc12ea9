pub mod Counting
pub mod Loops
pub mod Rows
