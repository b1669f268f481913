pub mod Agents
pub mod Handling
pub mod Laws
pub mod Mends
pub mod Places
pub mod Putting
