pub mod Descent
pub mod Grammar
pub mod Reading
