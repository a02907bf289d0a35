pub mod AddrLemmas
pub mod AnswerLemmas
pub mod DeterminedLemmas
pub mod InstanceLemmas
pub mod UsedLemmas
