pub mod Gathered
pub mod Ones
pub mod Places
pub mod Walks
