pub mod Overlap
pub mod Angle
