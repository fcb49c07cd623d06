pub mod Numbers
pub mod PortLine
