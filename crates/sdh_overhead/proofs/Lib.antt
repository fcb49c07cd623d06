pub mod Heads
pub mod Trips
pub mod Looking
pub mod Alone
pub mod Passing
pub mod Reading
pub mod Nine
pub mod Opening
