pub mod Boxes
pub mod Track
pub mod Rules
