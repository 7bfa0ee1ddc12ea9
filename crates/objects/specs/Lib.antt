pub mod Cells
pub mod Dets
