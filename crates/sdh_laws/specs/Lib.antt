pub mod Hearing
pub mod Carrying
pub mod Strangers
pub mod Converging
pub mod Resting
pub mod Restoring
