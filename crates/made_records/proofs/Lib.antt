pub mod Closed
pub mod Covered
pub mod OneOutcome
