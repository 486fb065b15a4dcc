pub mod Answers
pub mod Files
pub mod Meaning
pub mod Words
pub mod Written
