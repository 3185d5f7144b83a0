mod Words
pub mod Same
pub mod Insert
pub mod Sets
pub mod States
pub mod Bits
