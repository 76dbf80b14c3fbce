pub mod Book
pub mod Sections
pub mod Tests
pub mod Calls
pub mod Placed
pub mod Asking
pub mod View
