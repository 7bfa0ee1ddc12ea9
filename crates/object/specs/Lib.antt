pub mod Object
pub mod Refusal
