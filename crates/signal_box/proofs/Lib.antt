pub mod Struck
pub mod Switches
pub mod Safety
pub mod Turns
pub mod Notes
pub mod Ones
