pub mod KeyBlock
pub mod Limits
pub mod Opened
pub mod Promise
pub mod Sealing
pub mod Standard
