pub mod Counting
pub mod Number
