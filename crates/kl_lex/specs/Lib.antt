pub mod Blank
pub mod Brackets
pub mod Keywords
pub mod Lexing
pub mod Placing
pub mod Reading
pub mod Spelling
