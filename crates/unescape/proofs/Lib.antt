pub mod Longs
pub mod Stores
pub mod Bodies
pub mod Stretches
pub mod Passes
pub mod Holds
pub mod Faults
pub mod Examples
