pub mod Fields
pub mod Grounds
pub mod Naming
pub mod Patterns
pub mod Safety
