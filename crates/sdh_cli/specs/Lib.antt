pub mod Room
pub mod Running
pub mod Plans
pub mod Tables
pub mod Words
pub mod Outcome
pub mod Headline
