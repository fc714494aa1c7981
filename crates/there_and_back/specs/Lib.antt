pub mod Promise
pub mod There
