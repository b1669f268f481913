pub mod Annotations
pub mod Plain
pub mod Tellings
