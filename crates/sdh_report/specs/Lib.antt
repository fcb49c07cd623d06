pub mod Written
pub mod Lines
pub mod Statuses
pub mod Reports
