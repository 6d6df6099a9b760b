pub mod WrittenRecords
pub mod ReadRecords
pub mod StoreRound
pub mod Example
pub mod Calls
pub mod Refused
