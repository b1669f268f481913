-- What the TOML texts of the program spell, and what is wrong with a text.
pub mod Fields
pub mod Inner
pub mod Keys
pub mod KnownKeys
pub mod LoadTexts
pub mod Nearness
pub mod SettingsText
pub mod Steps
pub mod UnknownKeys
pub mod UnknownWords
pub mod Words
