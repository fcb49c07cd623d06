pub mod History
pub mod PathReports
pub mod Kept
pub mod Laws
