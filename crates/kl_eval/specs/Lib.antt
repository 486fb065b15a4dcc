pub mod Comes
pub mod Evals
pub mod Scans
pub mod Sources
pub mod Standing
pub mod Steps
pub mod Values
pub mod World
