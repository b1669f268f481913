-- The picture of a run's report tells in its title the report's totals, and a run's calls are the commands of a script.
pub mod Reports
pub mod Transcripts
