pub mod Places
pub mod Highest
pub mod Spans
pub mod Ends
pub mod Asked
