pub mod Places
pub mod Steps
pub mod Beyond
pub mod Search
pub mod RuleForms
pub mod Searched
pub mod Walking
