pub mod Answer
pub mod Goods
pub mod Lexemes
pub mod Proper
pub mod Steps
pub mod OneCatalogue
