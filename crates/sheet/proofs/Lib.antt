pub mod Puts
pub mod Changes
pub mod Growth
pub mod Looks
pub mod Front
