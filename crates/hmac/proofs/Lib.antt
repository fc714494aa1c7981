pub mod KeyBlock
pub mod Mac
pub mod OneOutcome
pub mod Range
