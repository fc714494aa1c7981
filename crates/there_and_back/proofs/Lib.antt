mod ArrayBytes
mod Back
pub mod OneOutcome
