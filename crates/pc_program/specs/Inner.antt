-- What private functions cite: the parser that is built for a first word, and a tally behind one more run.
pub mod FirstWord
pub mod Tallying
