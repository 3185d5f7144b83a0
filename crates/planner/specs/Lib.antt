pub mod Checked
pub mod Leads
pub mod Number
pub mod Path
pub mod Planned
pub mod Search
pub mod Walked
