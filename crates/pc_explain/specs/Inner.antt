pub mod Annotated
pub mod Told
pub mod Writing
