pub mod Handing
pub mod Pushes
pub mod Shapes
pub mod States
pub mod Writing
