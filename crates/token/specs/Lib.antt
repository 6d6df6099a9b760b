pub mod Named
pub mod Reads
