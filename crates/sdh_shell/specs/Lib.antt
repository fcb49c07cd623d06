pub mod Calls
pub mod Endings
pub mod Reading
pub mod Failing
pub mod Writing
pub mod Kept
