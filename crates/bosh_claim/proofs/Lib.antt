pub mod GroupLemmas
pub mod SlotLemmas
