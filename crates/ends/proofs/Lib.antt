pub mod Digits
pub mod Sets
pub mod Tallies
pub mod Listing
