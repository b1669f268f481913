pub mod Blanks
pub mod Driving
pub mod Ends
pub mod Merging
pub mod Shares
pub mod Turns
