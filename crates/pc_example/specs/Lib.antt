-- What the caller's own functions speak of.
pub mod Policies
