pub mod Same
pub mod Receiving
pub mod Crossing
pub mod Node
pub mod Stations
pub mod Rings
