pub mod Decimals
pub mod Cutting
pub mod Forms
pub mod Checking
pub mod Slipping
pub mod Scripts
pub mod Elements
pub mod Refusing
pub mod Wishes
pub mod Provisions
pub mod Nodes
pub mod Composed
pub mod Facts
pub mod Following
pub mod Laid
pub mod Filling
mod Worked
