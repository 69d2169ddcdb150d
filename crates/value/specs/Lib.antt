pub mod Made
pub mod Prices
pub mod Readings
pub mod Refusals
pub mod Steps
