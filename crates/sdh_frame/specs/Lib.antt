pub mod Sizes
pub mod Fields
pub mod Lending
pub mod Aus
pub mod PlaceLaws
pub mod AuLaws
pub mod Columns
