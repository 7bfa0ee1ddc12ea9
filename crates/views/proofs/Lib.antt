pub mod Known
pub mod Seeing
