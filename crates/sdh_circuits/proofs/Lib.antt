pub mod Shares
pub mod Few
mod Kept
mod Refusing
mod Adding
pub mod Rings
