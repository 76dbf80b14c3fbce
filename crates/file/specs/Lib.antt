pub mod Checks
pub mod Contents
pub mod Members
pub mod Readings
pub mod FileOf
