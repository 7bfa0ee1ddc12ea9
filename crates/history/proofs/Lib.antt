pub mod Ages
pub mod Sound
pub mod Cut
pub mod Rules
