pub mod Answered
pub mod Answering
pub mod Copied
pub mod Named
pub mod Noted
pub mod Printing
