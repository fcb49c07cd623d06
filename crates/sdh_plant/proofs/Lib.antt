pub mod Degrading
pub mod Calling
pub mod Telling
