pub mod Tables
pub mod Choosing
pub mod Lanes
pub mod Passes
pub mod Assembled
pub mod Taking
pub mod Own
