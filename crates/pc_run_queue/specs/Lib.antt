-- The names of the threads that an agent would run, the first in front. A refresh keeps what the view reports ready and
-- allowed on the CPU, adds the touched threads that are so, and puts the highest level first.
pub mod Names
pub mod Runs
pub mod Inner
