-- Words of the crate's own functions, and the laws behind its types.
pub mod Places
pub mod DigestLaws
pub mod Answering
pub mod Kept
