pub mod Scans
pub mod Steps
pub mod Ends
pub mod Lands
pub mod Taken
