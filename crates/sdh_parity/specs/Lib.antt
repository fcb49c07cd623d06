pub mod Scrambling
pub mod Parity
pub mod Violations
pub mod Laws
pub mod Pieces
