pub mod AnnexA
pub mod Block
pub mod Standard
