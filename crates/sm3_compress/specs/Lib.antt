pub mod Rounds
pub mod Standard
