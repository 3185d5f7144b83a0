pub mod Carried
pub mod Logged
pub mod Number
pub mod Places
pub mod Replayed
