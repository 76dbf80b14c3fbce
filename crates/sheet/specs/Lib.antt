pub mod Records
pub mod Connections
pub mod Laws
pub mod Adding
pub mod Sheets
pub mod Look
pub mod Closing
