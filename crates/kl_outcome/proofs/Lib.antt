pub mod Drawing
pub mod Flows
pub mod Grounds
pub mod Having
pub mod OutcomeTypes
pub mod PrimLemmas
pub mod Refining
pub mod RowFields
