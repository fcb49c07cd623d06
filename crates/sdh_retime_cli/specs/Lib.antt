pub mod Digits
pub mod Lines
pub mod Front
pub mod Outcome
