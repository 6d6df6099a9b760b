pub mod Operators
pub mod Tokens
