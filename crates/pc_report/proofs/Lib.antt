pub mod Reports
pub mod Writing
