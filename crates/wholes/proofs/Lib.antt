pub mod Chains
pub mod Counts
pub mod Placing
pub mod Joining
