pub mod Ends
pub mod Held
pub mod Number
pub mod Places
