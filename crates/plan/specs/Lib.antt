pub mod Layout
pub mod Blanks
pub mod Letters
pub mod Names
