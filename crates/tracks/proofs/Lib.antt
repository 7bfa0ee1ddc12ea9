pub mod Known
pub mod Table
pub mod Rules
pub mod Agree
