pub mod Recorded
pub mod Told
