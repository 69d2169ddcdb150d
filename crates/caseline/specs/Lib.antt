pub mod Line
pub mod Cases
pub mod Texts
