pub mod Order
pub mod Paths
pub mod Growth
pub mod Steps
pub mod Components
pub mod Tells
