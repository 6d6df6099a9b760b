pub mod Characters
pub mod Utf8
pub mod Wide
