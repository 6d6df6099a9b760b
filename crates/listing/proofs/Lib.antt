pub mod Stores
pub mod Counted
