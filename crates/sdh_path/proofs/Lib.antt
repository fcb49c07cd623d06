pub mod Tracing
pub mod Tallying
pub mod Watching
pub mod Clean
