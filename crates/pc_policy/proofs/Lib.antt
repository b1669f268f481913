pub mod Rising
pub mod Passes
pub mod Suffixes
pub mod Orders
pub mod Expressions
pub mod Policies
