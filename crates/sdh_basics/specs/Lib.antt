pub mod Indexed
pub mod Cells
pub mod Parity
pub mod Hexadecimal
pub mod Causes
