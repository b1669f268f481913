-- Proofs.
pub mod Lists
pub mod Ranks
