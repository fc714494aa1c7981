pub mod Promise
pub mod Timing
