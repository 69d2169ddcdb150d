pub mod Applies
pub mod Examples
pub mod Parts
pub mod Laws
pub mod Shorter
pub mod Places
