-- An explained script has comments between the replies. Without them it is the script's output.
pub mod Comments
pub mod Inner
