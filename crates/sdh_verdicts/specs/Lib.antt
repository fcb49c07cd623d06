pub mod Resting
pub mod Foretold
pub mod Failures
pub mod Sides
pub mod Verdicts
pub mod Laws
pub mod Occurring
