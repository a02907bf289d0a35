pub mod BelowLemmas
pub mod KnownLemmas
pub mod MachineLemmas
pub mod MoveLemmas
pub mod RowLemmas
