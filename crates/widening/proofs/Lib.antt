pub mod Classes
pub mod Values
pub mod Given
