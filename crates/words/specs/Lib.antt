pub mod Bytes
pub mod Choice
pub mod Lists
pub mod Promise
pub mod Word
