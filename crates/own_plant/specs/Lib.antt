pub mod Agreeing
pub mod Lent
