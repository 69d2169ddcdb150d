pub mod Forward
pub mod Language
pub mod Counting
pub mod Runs
pub mod Trees
pub mod Naming
