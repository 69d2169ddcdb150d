pub mod Grid
pub mod Linking
pub mod Sums
