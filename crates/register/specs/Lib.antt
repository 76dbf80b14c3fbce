pub mod Routes
pub mod Handed
