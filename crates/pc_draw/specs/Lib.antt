-- The picture of a script tells in its title how many commands there were, how many were refused, and the line of the
-- fault, where there is one. Of a part of which nothing is there no picture is written.
pub mod Inner
pub mod Parts
pub mod Pictures
