pub mod Plans
pub mod Endings
pub mod Failing
pub mod Told
pub mod Refused
pub mod Writing
pub mod Asked
