pub mod Match
pub mod Run
pub mod Typing
pub mod Tidy
pub mod Codes
