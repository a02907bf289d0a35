pub mod ListLemmas
pub mod CycleLemmas
pub mod ReleaseLemmas
pub mod ConfigLemmas
