pub mod Entries
pub mod LastPosts
pub mod Sends
pub mod ThreadEntry
