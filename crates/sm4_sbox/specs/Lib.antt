pub mod Once
pub mod Pass
pub mod Standard
