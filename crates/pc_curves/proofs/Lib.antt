-- Proofs.
pub mod Waits
