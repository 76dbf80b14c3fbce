pub mod Lex
pub mod Growth
pub mod Places
pub mod Following
pub mod Counts
pub mod Ending
