pub mod OneOutcome
pub mod Sound
