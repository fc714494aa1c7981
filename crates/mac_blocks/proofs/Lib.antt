pub mod Byte
pub mod Outer
pub mod Schedule
