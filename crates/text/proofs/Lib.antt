mod Padding
mod Promised
pub mod Names
mod Bound
mod Rereading
mod Written
pub mod Computed
