pub mod Cursors
pub mod Driver
pub mod Explained
pub mod Made
pub mod Texts
pub mod Types
