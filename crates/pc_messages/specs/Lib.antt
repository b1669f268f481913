-- What happened to a thread is told by messages. A message has a kind: Created, Blocked, Preempted, Yield, Dead,
-- Wakeup, Affinity or Priority. The ghOSt paper has the first seven; its eighth message, TIMER_TICK, is here an item of
-- a queue that belongs to no thread, and Priority is this project's own. A thread's messages are numbered from 1, which
-- is the ghOSt paper's Tseq; a run is, of each thread, the list of their kinds, and what a thread's state is follows
-- from that list.
pub mod Built
pub mod Inner
pub mod Items
pub mod Mask
pub mod Run
pub mod State
