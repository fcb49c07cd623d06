pub mod Connections
