pub mod Words
pub mod Reading
pub mod Sending
pub mod Repeated
pub mod Spreading
pub mod Laws
