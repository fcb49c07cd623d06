pub mod Fibres
pub mod Arrivals
pub mod Calls
pub mod InMemory
pub mod Kept
pub mod Laws
