pub mod Readings
pub mod Stores
pub mod Turns
pub mod InStep
pub mod Parted
pub mod Shown
pub mod Calls
pub mod Codes
