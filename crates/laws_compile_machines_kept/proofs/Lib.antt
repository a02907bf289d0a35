pub mod BeganLemmas
pub mod FrameLemmas
pub mod KeptLemmas
pub mod NamedLemmas
pub mod OwnLemmas
