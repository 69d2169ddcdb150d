pub mod Standing
pub mod Alike
pub mod Ending
