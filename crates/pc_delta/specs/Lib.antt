-- What one agent tells another. A part is one message, or a folded prefix, which tells all messages of a thread up to a
-- number and the state that they report. A delta is a list of parts without a fault. A digest is a set of pairs without
-- what the messages say; an answer to it is a delta that tells what it lacks. Taking in is union.
pub mod Parts
pub mod Faults
pub mod Digests
pub mod Exchange
pub mod Worked
pub mod Inner
