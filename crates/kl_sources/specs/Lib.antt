pub mod Sources
pub mod Placing
pub mod Attaching
pub mod Walking
