mod Back
pub mod Gather
mod Reach
mod Report
