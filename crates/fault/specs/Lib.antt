pub mod Table
pub mod Shown
