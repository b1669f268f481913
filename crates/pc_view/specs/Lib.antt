-- What is known of all threads. A view of a set of pairs in a run tells, of each thread of the set, what the run's
-- messages in the set tell; two views of one run are equal exactly where their sets are.
pub mod Views
pub mod Prefixes
pub mod Audit
pub mod Inner
