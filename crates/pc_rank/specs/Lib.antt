-- Expressions that give a thread's rank: what they are, what they mean, and which text they have.
pub mod Expressions
pub mod Layout
pub mod Laid
pub mod Form
pub mod Meaning
pub mod Texts
pub mod Tokens
pub mod Grammar
pub mod Reading
pub mod Fields
pub mod Inner
