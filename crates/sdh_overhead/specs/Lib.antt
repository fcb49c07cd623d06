pub mod Overhead
pub mod Sections
pub mod Laws
pub mod Rows
pub mod Landing
