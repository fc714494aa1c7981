pub mod Accepts
pub mod Answers
pub mod Header
pub mod Laid
pub mod Mac
pub mod OneOutcome
pub mod Records
