pub mod Reading
pub mod Promise
pub mod Faults
pub mod Binding
pub mod Bound
pub mod Written
pub mod Held
