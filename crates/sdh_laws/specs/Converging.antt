pub mod Steady
pub mod Laws
pub mod Healthy
pub mod Rings
