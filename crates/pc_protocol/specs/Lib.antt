-- The protocol by which agents in threads work, as a machine. Its states are a plain world with the stage, the mailbox
-- and the notes of each agent; its steps are what one of them does under one hold of the lock, or by one send. What
-- holds of every state holds however the threads are scheduled, and however slow a send is.
pub mod Protocol
pub mod Resting
pub mod Running
pub mod Listing
pub mod Seats
pub mod Turning
pub mod Manning
pub mod Following
pub mod Machine
