pub mod Drafts
pub mod Readings
pub mod SharedKeys
pub mod Values
