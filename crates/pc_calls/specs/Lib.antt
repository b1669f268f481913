-- What can be asked of a kernel and of agents, and what they answer, has one type each. Here stands what holds of these
-- types whoever uses them: the ranges of limits in both profiles, which event is which call of the kernel, what a call
-- is replied, and what an event is about and does.
pub mod AgentCalls
pub mod Conditions
pub mod Effects
pub mod Events
pub mod Limits
pub mod Leavings
