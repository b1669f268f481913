pub mod Sessions
pub mod Showing
