pub mod Cases
pub mod Determined
pub mod Ranges
pub mod Sets
pub mod Tables
