pub mod Bodies
pub mod Measures
pub mod Longs
