pub mod Finding
pub mod Comparing
pub mod Changing
pub mod Editing
pub mod Stepping
pub mod Promised
