pub mod Attached
pub mod Staying
pub mod LowTerms
