-- The plain kernel is one list of posts and a few marks; all else is derived from them. For each call there is one list
-- of conditions, each with its refusal, in the order in which they are asked. The first that holds is answered, and
-- nothing changes; where none holds, the call changes what its line says. A kernel shows a plain kernel where what can
-- be read of both is the same, and each call of the kernel is stated for every plain kernel that it shows: it answers
-- as the step does, and shows the step's result afterwards. What holds after every list of calls is said of the plain
-- kernel, and so holds of every kernel.
pub mod Answers
pub mod Effects
pub mod Exact
pub mod Facts
pub mod Inner
pub mod PlainKernel
pub mod Posted
pub mod Queued
pub mod Reads
pub mod Rows
pub mod Sound
pub mod Steps
pub mod Worked
