pub mod Lists
pub mod Chunks
pub mod Near
pub mod Turning
pub mod Course
pub mod Heard
pub mod Runs
