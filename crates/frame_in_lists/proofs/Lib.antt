pub mod Parts
pub mod Testing
pub mod Turns
pub mod Looking
pub mod Storing
