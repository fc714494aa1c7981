pub mod Closed
pub mod Deprotected
pub mod Given
pub mod Promise
