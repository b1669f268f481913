pub mod Driving
pub mod Resting
