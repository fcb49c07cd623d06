pub mod Faults
pub mod Observed
pub mod Promises
