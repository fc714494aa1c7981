pub mod Cutting
pub mod Standard
pub mod State
