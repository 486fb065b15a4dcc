pub mod Words
pub mod Grammar
pub mod Descent
pub mod Statements
pub mod Reading
pub mod Written
pub mod Turns
pub mod Meaning
