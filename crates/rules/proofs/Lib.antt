mod Examples
mod Rows
pub mod Agree
pub mod Choice
pub mod Sequence
pub mod Repeats
pub mod Own
pub mod Parts
pub mod Cases
pub mod Sound
pub mod Shorter
pub mod Walking
pub mod Cursor
pub mod Firsts
