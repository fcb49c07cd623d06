pub mod Adapted
pub mod Memory
pub mod Reading
pub mod Writing
