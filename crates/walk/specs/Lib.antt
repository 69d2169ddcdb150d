pub mod Walk
pub mod Seeing
pub mod Places
