pub mod Closing
pub mod Contents
pub mod Desk
pub mod Handing
pub mod Nested
pub mod Opening
pub mod Reading
