pub mod Programs
pub mod Outcome
pub mod Headline
pub mod Calls
pub mod Deeds
pub mod Laws
pub mod Sources
