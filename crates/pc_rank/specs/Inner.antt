-- What only private functions cite, and how tokens are cut off and read: a law tells what that gives.
pub mod Cutting
pub mod Reading
pub mod Limits
pub mod Stacks
pub mod Made
pub mod Written
pub mod Ends
pub mod Row
