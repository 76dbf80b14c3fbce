pub mod Counting
pub mod Flipping
pub mod Membership
pub mod Sizes
