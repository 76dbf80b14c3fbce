pub mod Ports
pub mod Blank
pub mod Tellings
