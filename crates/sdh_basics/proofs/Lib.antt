pub mod Indexing
pub mod CellsLaws
pub mod Parts
pub mod ParityLaws
pub mod HexadecimalLaws
pub mod Answered
