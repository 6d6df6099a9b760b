pub mod Lands
pub mod Items
pub mod Begins
