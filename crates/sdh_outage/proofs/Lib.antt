pub mod Standing
pub mod Windows
pub mod Hearing
pub mod Tracing
pub mod Parts
pub mod Short
pub mod Longest
