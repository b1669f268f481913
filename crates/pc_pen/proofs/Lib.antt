pub mod Decimals
pub mod Escapes
pub mod Fronts
pub mod Marks
