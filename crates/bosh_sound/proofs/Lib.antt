pub mod AlikeLemmas
pub mod EachLemmas
pub mod NeedLemmas
pub mod OrderLemmas
