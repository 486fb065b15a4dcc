pub mod Arguments
pub mod Fits
pub mod Meaning
pub mod Records
pub mod Table
