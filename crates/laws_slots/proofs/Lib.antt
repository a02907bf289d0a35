pub mod OrphanCases
pub mod OrphanFrames
pub mod SlotCases
pub mod SlotFrames
pub mod SlotLemmas
