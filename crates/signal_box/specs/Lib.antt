pub mod Turning
pub mod Journal
pub mod Safety
pub mod Slips
pub mod Kept
pub mod OneAnswer
