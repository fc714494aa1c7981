pub mod Promise
pub mod State
pub mod Step
pub mod Work
