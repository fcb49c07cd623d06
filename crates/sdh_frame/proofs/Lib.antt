pub mod PlaceProofs
pub mod AuProofs
pub mod Moves
pub mod AllAus
pub mod Single
pub mod ByColumns
pub mod Across
