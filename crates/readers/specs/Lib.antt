pub mod Rules
pub mod Scan
pub mod Readers
pub mod Numbers
pub mod Passing
