pub mod Attached
pub mod Scanning
