pub mod Flowing
pub mod Laws
pub mod Followed
