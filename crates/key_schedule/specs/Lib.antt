pub mod Promise
pub mod Rest
pub mod Sizes
pub mod Standard
