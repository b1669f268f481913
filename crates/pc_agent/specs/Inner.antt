pub mod Picks
pub mod Wanted
pub mod Settled
pub mod Shortcuts
pub mod Exactly
