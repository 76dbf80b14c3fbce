pub mod Ties
pub mod Heights
pub mod Pigeons
pub mod Nexts
pub mod Descents
pub mod Bounds
pub mod Forward
pub mod Retreats
pub mod Turns
pub mod Floods
pub mod Dead
mod Signals
