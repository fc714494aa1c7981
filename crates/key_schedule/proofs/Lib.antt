pub mod Blocks
pub mod Depth
pub mod Lengths
pub mod OneOutcome
mod Parts
pub mod Sizes
mod Turn
