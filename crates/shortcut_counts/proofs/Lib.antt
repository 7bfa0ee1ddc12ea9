pub mod Sums
pub mod Bits
pub mod Numbered
pub mod OneRow
pub mod Placing
pub mod Shares
pub mod Columns
