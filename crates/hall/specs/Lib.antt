pub mod Hall
pub mod Jobs
pub mod Network
pub mod Number
pub mod Plant
pub mod Rules
