mod Advising
pub mod Kept
pub mod Runs
mod Search
