-- Runs of agents in one thread, whose schedule a seed draws: what they end in, and that none comes to rest before it is
-- done whose agents do not restart.
pub mod Draws
pub mod Driving
pub mod Ending
