pub mod Descent
pub mod Grammar
pub mod Ground
pub mod Has
pub mod Parts
pub mod Reading
pub mod Texts
pub mod Written
