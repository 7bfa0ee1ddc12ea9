pub mod Budget
pub mod Ranged
pub mod Row
pub mod Rows
