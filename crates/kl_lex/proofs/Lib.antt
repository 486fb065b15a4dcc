pub mod Firsts
pub mod Fronts
pub mod Inside
pub mod OneLexing
pub mod Placings
mod Readings
pub mod Sequence
