pub mod Agree
pub mod Parts
pub mod Numbers
pub mod Bytes
pub mod OneOutcome
