pub mod Counts
pub mod Inverse
pub mod Once
pub mod Pass
pub mod Start
pub mod Table
