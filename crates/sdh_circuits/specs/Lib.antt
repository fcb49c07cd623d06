pub mod Naming
pub mod Provisioned
pub mod Ends
pub mod Provisioning
pub mod Kept
pub mod Checks
