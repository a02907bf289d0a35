pub mod BeginLemmas
pub mod FitLemmas
pub mod KindLemmas
pub mod MachineLemmas
