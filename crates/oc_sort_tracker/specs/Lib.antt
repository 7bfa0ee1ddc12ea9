pub mod New
pub mod Refused
