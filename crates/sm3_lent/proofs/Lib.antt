pub mod OneOutcome
pub mod Size
