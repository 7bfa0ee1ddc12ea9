pub mod Hosting
pub mod Stepping
pub mod Settling
