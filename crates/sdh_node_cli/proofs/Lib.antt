pub mod Short
pub mod Ports
pub mod Rounds
pub mod Runs
pub mod Own
pub mod Named
pub mod EndLine
pub mod Heads
pub mod Long
pub mod Newlines
pub mod Ahead
pub mod Places
pub mod Turning
pub mod Faults
pub mod Told
pub mod Unique
mod Complete
pub mod Kept
