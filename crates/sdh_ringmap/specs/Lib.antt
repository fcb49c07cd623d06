pub mod Rates
pub mod Requests
pub mod Fibres
pub mod Ids
pub mod Numbering
pub mod Places
pub mod Steps
pub mod Arcs
