pub mod Uncut
pub mod Replay
pub mod Sound
pub mod Suffices
