pub mod Ranges
pub mod Listing
pub mod Plain
