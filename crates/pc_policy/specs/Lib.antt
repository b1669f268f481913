-- In which order an agent would run its threads: a ranking gives a thread a rank, or none, and the least rank runs
-- first, first come first served within a rank. The rules of an agent are a ranking, and whether its steals are exact.
pub mod Rankings
pub mod Ranks
pub mod Rules
pub mod Names
