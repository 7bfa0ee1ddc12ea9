pub mod Order
pub mod Example
