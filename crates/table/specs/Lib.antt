pub mod Station
pub mod Examples
pub mod Table
