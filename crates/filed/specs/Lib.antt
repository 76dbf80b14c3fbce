pub mod Taken
pub mod Records
