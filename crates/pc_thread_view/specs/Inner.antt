-- Words of the crate's own functions, and the laws behind its type.
pub mod Early
pub mod Prefix
pub mod Held
pub mod Taking
pub mod ToldLaws
pub mod SameLaws
