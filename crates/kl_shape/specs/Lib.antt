pub mod Joining
pub mod Parts
pub mod Shapes
