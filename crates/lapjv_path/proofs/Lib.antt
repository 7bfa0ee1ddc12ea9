pub mod Turn
pub mod Goes
pub mod Counts
