pub mod Border
pub mod Promise
