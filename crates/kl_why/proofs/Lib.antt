pub mod Attached
pub mod Beginnings
pub mod Explained
pub mod Findings
pub mod Idle
pub mod Placed
