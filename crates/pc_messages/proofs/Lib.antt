pub mod Bools
pub mod States
