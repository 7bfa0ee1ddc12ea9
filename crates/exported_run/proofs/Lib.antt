pub mod Shape
pub mod Steps
pub mod EveryList
