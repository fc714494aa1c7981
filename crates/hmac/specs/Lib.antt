pub mod Cutting
pub mod Rfc2104
pub mod State
