pub mod Seen
pub mod Parsing
pub mod Faults
