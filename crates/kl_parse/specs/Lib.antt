pub mod Lexemes
pub mod Grammar
pub mod Parsing
pub mod Kinds
pub mod Instead
pub mod Descent
pub mod Telling
