pub mod Names
pub mod Spelling
pub mod Limits
pub mod Machine
pub mod Reading
