pub mod Alike
pub mod Cutting
pub mod Ending
pub mod Iteration
pub mod OneOutcome
pub mod Standard
pub mod Taken
