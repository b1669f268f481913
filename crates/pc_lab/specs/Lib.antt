-- A run of the lab is a list of moments: at which tick which event was taken, and what it was replied. The moments lead
-- from the start of a world to what it shows, by the world's own steps, at ticks that never descend. Counts, waits and
-- the text of a script are those of the moments. Threads come as the load has them, and a run that is done adds up to
-- it; one that has stalled leaves threads waiting, and nothing that could run them.
pub mod Accounts
pub mod Counting
pub mod Creations
pub mod Heads
pub mod Laws
pub mod Limits
pub mod Moments
pub mod Playing
pub mod Stages
pub mod Stalling
pub mod Standing
pub mod Texts
pub mod Times
pub mod Waiters
pub mod Waiting
