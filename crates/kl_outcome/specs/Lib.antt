pub mod Outcome
pub mod Typed
