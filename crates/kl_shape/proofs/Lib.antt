pub mod Fills
pub mod Joins
pub mod Records
pub mod ShapeLemmas
mod Turns
pub mod Variants
