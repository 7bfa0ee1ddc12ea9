pub mod Pass
pub mod SeatAny
