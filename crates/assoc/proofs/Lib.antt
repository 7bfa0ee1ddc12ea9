pub mod AtOrAbove
pub mod Counts
pub mod Matching
pub mod Inside
pub mod Split
pub mod Rounds
