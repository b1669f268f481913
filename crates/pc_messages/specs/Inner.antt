-- Laws behind the crate's types.
pub mod Halves
