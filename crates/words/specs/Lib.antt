pub mod Words
pub mod Ahead
