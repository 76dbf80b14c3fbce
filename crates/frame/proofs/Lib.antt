pub mod Opens
pub mod Places
pub mod Watched
