pub mod FarEnds
pub mod Urgency
pub mod Filtering
pub mod SameStates
