pub mod AnnexA
