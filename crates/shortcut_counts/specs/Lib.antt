pub mod Counted
pub mod Placements
