pub mod Walking
pub mod Going
pub mod Standing
pub mod Knowing
pub mod Row
