pub mod OperatorRows
pub mod OperatorSure
pub mod Tests
pub mod Passes
pub mod Sure
