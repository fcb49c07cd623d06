pub mod LookUps
pub mod Rows
