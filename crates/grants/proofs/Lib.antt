pub mod Known
pub mod Opening
pub mod Seating
pub mod Leaving
