pub mod Frames
pub mod Sides
pub mod Brought
pub mod Spans
pub mod Laws
