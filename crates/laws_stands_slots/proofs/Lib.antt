pub mod CompilationEndedLemmas
pub mod KeyBuiltLemmas
pub mod SlotClosedLemmas
pub mod SlotTableLemmas
pub mod SlotToldLemmas
pub mod SweptLemmas
