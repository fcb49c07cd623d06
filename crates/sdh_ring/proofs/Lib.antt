pub mod Nodes
pub mod Rings
pub mod Owned
pub mod Breaking
pub mod Settling
pub mod Turns
mod Whole
mod There
