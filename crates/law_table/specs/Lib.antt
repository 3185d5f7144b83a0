pub mod Entry
pub mod Limits
pub mod Number
pub mod Single
pub mod Start
