pub mod Decimal
pub mod Lines
pub mod Written
pub mod Closing
