pub mod View
pub mod Found
pub mod Reach
