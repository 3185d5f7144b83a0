pub mod Code
pub mod Rows
pub mod Step
