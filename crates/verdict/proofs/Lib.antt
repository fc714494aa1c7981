pub mod Cleared
pub mod Extracted
pub mod OneOutcome
