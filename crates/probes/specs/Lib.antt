pub mod Probes
pub mod Promise
