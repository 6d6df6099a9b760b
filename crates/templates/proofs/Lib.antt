pub mod Landing
pub mod Turns
