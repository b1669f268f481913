-- Proofs.
pub mod Accounting
pub mod Comings
pub mod Counting
pub mod Stepping
pub mod Staging
pub mod Texts
pub mod Spending
pub mod Readiness
pub mod Leaving
pub mod Holding
