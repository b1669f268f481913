-- What can be tried in the lab: loads, the steps of their threads joined, and variants.
pub mod Joining
pub mod Loads
pub mod Variants
