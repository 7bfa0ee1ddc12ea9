pub mod Gap
pub mod Line
