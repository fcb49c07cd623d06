pub mod Firsts
pub mod Around
pub mod Clear
pub mod Sides
pub mod Going
