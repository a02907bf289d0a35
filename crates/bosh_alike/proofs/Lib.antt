pub mod ElementLemmas
pub mod AlikeLemmas
