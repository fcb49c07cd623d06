pub mod Turns
pub mod Lengths
pub mod History
pub mod Store
pub mod Laws
pub mod Kept
