pub mod Longest
pub mod Ends
