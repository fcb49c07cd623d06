pub mod Keeping
pub mod Highest
