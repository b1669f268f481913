-- What one step more does to what is behind the steps, to the items of a queue, and to what steps note.
pub mod Counted
pub mod Noted
pub mod Pushed
pub mod Shown
