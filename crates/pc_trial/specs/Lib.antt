-- What is written of a load under variants is that of runs that were played. What the lab is asked for, how it ends,
-- what it wrote and says then, and what it tells meanwhile.
pub mod Comparing
pub mod Inner
pub mod Progress
pub mod Tried
pub mod Words
