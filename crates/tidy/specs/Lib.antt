pub mod Outcomes
pub mod Rows
pub mod Searches
pub mod Changes
pub mod Edits
pub mod Faults
pub mod Promise
