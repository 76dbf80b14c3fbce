pub mod Pool
pub mod Performed
pub mod Day
pub mod Step
pub mod Chain
pub mod Balance
pub mod Words
