pub mod Drawings
pub mod Intervals
pub mod LineCounts
pub mod Recordings
