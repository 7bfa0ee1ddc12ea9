pub mod Left
pub mod Ready
pub mod Agree
pub mod Framing
