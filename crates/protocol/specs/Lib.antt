pub mod Blank
pub mod Words
