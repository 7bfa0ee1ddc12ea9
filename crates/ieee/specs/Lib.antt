pub mod Ops
pub mod Patterns
pub mod Sqrt
pub mod Acos
