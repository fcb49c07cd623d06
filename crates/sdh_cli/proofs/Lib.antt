pub mod Told
pub mod Plans
pub mod TableLines
pub mod Promises
pub mod Deeds
