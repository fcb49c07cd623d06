pub mod Short
pub mod Cut
pub mod Turns
pub mod Ends
pub mod Unsteady
pub mod Fronts
pub mod Endings
pub mod Numbers
