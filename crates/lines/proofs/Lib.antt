mod Scans
mod Front
mod Sizes
mod Writing
pub mod Parts
pub mod Steps
pub mod Chunks
pub mod Edges
pub mod Decimal
pub mod Texts
pub mod Telling
pub mod Run
pub mod OneOutcome
