pub mod Kinds
pub mod Tree
pub mod Rules
pub mod Stands
pub mod Laws
