pub mod Chars
pub mod Calls
