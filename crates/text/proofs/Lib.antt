pub mod Leads
pub mod Decode
