pub mod Hexadecimal
pub mod Input
pub mod Judgement
pub mod Promise
pub mod Reading
pub mod Run
pub mod Telling
pub mod Text
