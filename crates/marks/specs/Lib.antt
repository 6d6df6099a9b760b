pub mod Shut
pub mod Marks
