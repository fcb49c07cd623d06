pub mod Marks
pub mod Landing
pub mod Ports
pub mod Passed
mod Planned
pub mod Frames
pub mod Places
pub mod Waiting
pub mod Slips
pub mod Found
pub mod Same
pub mod Fronts
