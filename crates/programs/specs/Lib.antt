pub mod Odd
pub mod Promise
pub mod Rule
