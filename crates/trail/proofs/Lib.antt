pub mod Effects
mod Trails
