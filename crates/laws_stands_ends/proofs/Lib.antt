pub mod DroppedToldLemmas
pub mod DroppedWorksLemmas
pub mod SlotDroppedLemmas
pub mod SlotEndedLemmas
pub mod WithoutLemmas
