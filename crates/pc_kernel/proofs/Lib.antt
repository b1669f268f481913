pub mod Items
pub mod Ranges
mod Begin
mod PostAt
mod Shown
mod Slots
pub mod Always
pub mod AlwaysAgents
pub mod AlwaysCalls
pub mod AlwaysEvery
pub mod AlwaysTold
mod Effects
pub mod Posting
pub mod Posts
pub mod Refusals
pub mod ShownReads
mod CpuPosting
mod Grows
mod Told
mod Added
mod Stepped
mod Moves
mod Becoming
mod TickSent
mod LastPosts
mod Marked
mod Pending
pub mod Answered
mod Answering
mod Reached
mod PostRefused
pub mod Held
