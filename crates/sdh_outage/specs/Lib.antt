pub mod Near
pub mod Kinds
pub mod Outages
pub mod Changes
pub mod Lines
pub mod Kept
pub mod Latest
pub mod Longest
