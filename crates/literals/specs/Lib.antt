pub mod Literal
pub mod Set
pub mod State
