-- A book is a kernel with the list of every call that it accepted and what it answered. In every book the kernel is the
-- replay of the list, so the laws of the kernel hold of it. Here stand what is asked of a run in threads, what may be
-- wrong with that, what a run adds up to, what the listed calls come to, and what views tell of a run together.
pub mod Pages
pub mod Reports
pub mod Settings
pub mod Settling
pub mod Totals
pub mod Inner
