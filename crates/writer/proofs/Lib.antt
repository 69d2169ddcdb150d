pub mod Putting
pub mod Pens
