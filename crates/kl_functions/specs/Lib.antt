pub mod Firsts
pub mod Occurrences
pub mod Known
pub mod Rounds
pub mod Plainly
pub mod Named
pub mod Bases
