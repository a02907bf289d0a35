pub mod ClearedLemmas
pub mod ClosedLemmas
