pub mod Runs
pub mod Shorts
pub mod Begins
