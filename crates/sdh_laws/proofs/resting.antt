pub mod Pointers
pub mod Clocks
pub mod Signals
pub mod Calm
pub mod Resting
