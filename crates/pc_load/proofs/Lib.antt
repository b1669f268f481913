pub mod Choices
pub mod Demands
pub mod Joined
pub mod Parts
pub mod Threads
