pub mod Scenes
pub mod Owed
pub mod Plans
pub mod Laws
