mod Ranges
mod Reading
mod Simple
