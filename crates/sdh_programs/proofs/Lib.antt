pub mod Stages
pub mod Promises
pub mod Deeds
pub mod Calls
pub mod Kept
pub mod Carried
pub mod Sources
pub mod AtEnd
