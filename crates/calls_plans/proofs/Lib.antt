pub mod Begun
pub mod Drawing
pub mod Reading
pub mod Scannable
pub mod Sources
pub mod Terms
