pub mod State
pub mod Objects
pub mod Rounds
pub mod Frame
pub mod Contract
