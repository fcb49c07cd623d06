pub mod Runs
pub mod Came
pub mod Spans
pub mod Ports
pub mod Spreading
pub mod Windows
pub mod Calming
pub mod Converging
pub mod Stretches
mod Idle
pub mod Uneventful
pub mod HealthySignals
pub mod HealthyPointers
pub mod HealthyRounds
pub mod HealthyPorts
pub mod Rings
