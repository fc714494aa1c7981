pub mod AnnexA
pub mod Inverse
pub mod Rounds
