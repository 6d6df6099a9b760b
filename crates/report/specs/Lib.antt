pub mod Matters
pub mod Severities
