-- What the program does: runs by a settings text, reports, tallies, the command line, how the program ends, and what it
-- wrote then.
pub mod CommandLine
pub mod Endings
pub mod Numbers
pub mod Program
pub mod Programs
pub mod Progress
pub mod ReportText
pub mod Runs
pub mod Seeds
pub mod Talks
pub mod Tallies
pub mod Inner
