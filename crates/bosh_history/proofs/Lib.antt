pub mod BoundLemmas
pub mod FrameLemmas
pub mod KnownLemmas
pub mod LearnLemmas
pub mod RunLemmas
pub mod StoredLemmas
