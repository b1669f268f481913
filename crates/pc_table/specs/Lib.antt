-- The text that compares runs is a function of what is told of them: rows have a name and ask for a number of each run,
-- percentiles are told by counting and not by a sort, and the rows are laid out as a table, or on their side as CSV.
pub mod Percentiles
pub mod Rows
pub mod Sheets
pub mod Values
