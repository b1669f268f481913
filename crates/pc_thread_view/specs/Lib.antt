-- What is known of one thread: how many of its first messages are known without a gap, the state that these report, and
-- each later message that is known though one before it is not.
pub mod Told
pub mod Histories
pub mod Same
pub mod Inner
