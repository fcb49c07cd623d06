pub mod Keeping
pub mod Histories
pub mod Honest
pub mod Clocks
pub mod Waiting
pub mod Happened
