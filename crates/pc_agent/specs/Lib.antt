-- One agent in plain words is a set of pairs, a run list, and a count of items at the front of its queue that it has
-- sent. Each of its calls is stated twice. For every plain kernel that the kernel shows, every run that goes on from
-- its run, and whatever plain agent the agent shows: of this the world is made. And by what the agent itself holds and
-- what is read of the kernel: this holds of an agent whose view is of no run, too, since it took in a made-up delta.
pub mod PlainAgent
pub mod Counts
pub mod Wires
pub mod Shows
pub mod Publishing
pub mod Running
pub mod Exchanging
pub mod Own
pub mod Calls
pub mod Inner
