pub mod AgreeLemmas
pub mod GrowthLemmas
pub mod TableLemmas
