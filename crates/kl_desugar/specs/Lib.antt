pub mod Translation
pub mod Layers
pub mod Opening
pub mod States
pub mod Sense
pub mod Small
pub mod Reached
pub mod Mentioned
