pub mod Rows
pub mod Within
pub mod Lexing
