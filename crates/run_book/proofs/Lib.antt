pub mod Rounds
pub mod Sim
pub mod Writing
pub mod Places
pub mod Laws
pub mod Lines
pub mod Accepted
