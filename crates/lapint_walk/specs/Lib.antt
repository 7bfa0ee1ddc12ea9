pub mod Wholes
pub mod Cheapest
pub mod Parts
pub mod Holds
pub mod Example
