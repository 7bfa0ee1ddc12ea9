pub mod Ids
pub mod Tables
