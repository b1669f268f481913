-- Words of the crate's own functions.
pub mod Rows
pub mod Moves
