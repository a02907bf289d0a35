pub mod SlotBegunLemmas
pub mod SlotOpenedLemmas
