pub mod Steps
pub mod Days
pub mod Copies
pub mod Balances
