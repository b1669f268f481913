pub mod Among
pub mod Gaining
pub mod Taking
pub mod Settling
pub mod Places
pub mod Slots
pub mod Alone
pub mod Histories
mod Moved
