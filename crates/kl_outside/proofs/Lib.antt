pub mod SinkLemmas
pub mod FileLemmas
mod Places
