-- The plain world is a plain kernel, a plain agent for each CPU, and the sets of the deltas that were sent. Each event
-- is one step of it: a call of the kernel, or what an agent does. A world is reached where a list of events leads to
-- it, whatever was answered to digests of long ago and whatever found no memory. So what holds of every reached world
-- holds whatever is lost, late, repeated or refused.
pub mod Callers
pub mod Counting
pub mod Facts
pub mod Inner
pub mod Mending
pub mod Mends
pub mod PlainWorld
pub mod Reached
pub mod Shows
pub mod RanOut
pub mod Steps
