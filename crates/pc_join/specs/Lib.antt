-- A value that stands for a set of members says which, and of which source it is: what it tells of each member is what
-- the source gives. A member is a path of numbers, as a thread's name and a message's number; a set is a test, so union
-- is "or". Joining is union, and equal sets of one source are equal values. Here stand joins, sets of numbers as
-- ranges, values by name, and sets of names.
pub mod Sets
pub mod Ranges
pub mod ByName
pub mod NameSets
pub mod Inner
