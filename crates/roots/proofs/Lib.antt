pub mod Roots
pub mod Tables
