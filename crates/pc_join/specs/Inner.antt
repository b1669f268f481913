-- Words of the crate's own functions, and the laws behind its types.
pub mod Equal
pub mod Turns
pub mod Ranges
pub mod RangeLaws
pub mod Upto
pub mod Puts
pub mod NameLaws
pub mod Blocks
pub mod Leaves
pub mod Near
