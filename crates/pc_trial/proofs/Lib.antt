pub mod Endings
pub mod Played
