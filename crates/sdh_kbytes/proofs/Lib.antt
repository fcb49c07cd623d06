pub mod Tables
pub mod SameWords
