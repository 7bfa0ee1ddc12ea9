pub mod Cells
pub mod Pushing
pub mod Reading
