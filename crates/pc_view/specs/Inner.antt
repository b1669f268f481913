-- The laws behind the crate's type.
pub mod ViewLaws
