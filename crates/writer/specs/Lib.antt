pub mod Writing
pub mod Laying
