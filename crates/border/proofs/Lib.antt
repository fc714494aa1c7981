mod Blocks
mod Halves
pub mod OneOutcome
mod Results
mod Sizes
