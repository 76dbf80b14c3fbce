pub mod Matched
