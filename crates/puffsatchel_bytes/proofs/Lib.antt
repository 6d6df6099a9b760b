pub mod Calls
pub mod Tells
