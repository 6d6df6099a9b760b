pub mod Plain
pub mod Scalars
pub mod Refused
pub mod Left
