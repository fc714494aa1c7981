pub mod Cbc
pub mod Deciphered
pub mod OneOutcome
pub mod Sm4
pub mod Turn
