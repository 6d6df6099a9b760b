pub mod Numbered
pub mod Buffer
pub mod Sound
pub mod Answer
pub mod Front
pub mod Calls
pub mod While
