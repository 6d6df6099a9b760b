pub mod Findings
pub mod Notes
pub mod InStep
