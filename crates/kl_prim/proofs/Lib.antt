pub mod ItemLemmas
pub mod TextLemmas
pub mod CollectionLemmas
pub mod TableLemmas
pub mod RecordLemmas
pub mod MeaningLemmas
