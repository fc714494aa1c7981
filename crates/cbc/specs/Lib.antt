pub mod Cbc
pub mod Promise
