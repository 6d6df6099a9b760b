pub mod Shading
