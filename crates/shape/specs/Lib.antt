pub mod Ranges
pub mod Fits
pub mod Listing
pub mod Laws
pub mod Printed
