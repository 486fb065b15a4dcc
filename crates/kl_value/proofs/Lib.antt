pub mod CanonLemmas
pub mod IsCanonicalLemmas
pub mod KeyLemmas
pub mod OrderLemmas
pub mod QuotedLemmas
pub mod ShapeLemmas
pub mod ViewLemmas
