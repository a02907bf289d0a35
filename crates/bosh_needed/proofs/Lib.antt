pub mod MarkLemmas
pub mod NeedLemmas
