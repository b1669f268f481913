-- The picture of waits tells in its title, of each run, how many there were and how long they lasted.
pub mod Waits
