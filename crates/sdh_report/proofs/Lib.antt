pub mod Parts
pub mod Rows
pub mod Short
pub mod Fronts
