pub mod Driving
pub mod Labels
pub mod MadeRows
pub mod MadeTypes
pub mod RowLemmas
pub mod Shortness
pub mod Telling
