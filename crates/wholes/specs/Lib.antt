pub mod Places
pub mod Shows
pub mod Turns
