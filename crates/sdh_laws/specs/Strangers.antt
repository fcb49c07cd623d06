pub mod Owners
pub mod Ages
pub mod Transit
pub mod Vouched
pub mod Laws
pub mod Undisturbed
pub mod Untouched
pub mod Spared
