pub mod Judged
pub mod Shared
