mod Checks
mod Lasts
mod Paths
pub mod Plans
mod Progress
mod Turning
mod Turns
pub mod Ways
