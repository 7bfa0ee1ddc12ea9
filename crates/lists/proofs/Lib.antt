pub mod Tab
pub mod Keep
pub mod All
pub mod Fill
pub mod Each
