pub mod Rules
pub mod Filtering
pub mod Conditions
pub mod Words
pub mod FarEnds
pub mod Views
pub mod Urgency
pub mod Shapes
