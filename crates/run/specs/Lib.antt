pub mod Lent
pub mod New
pub mod Run
pub mod Update
pub mod WithSettings
