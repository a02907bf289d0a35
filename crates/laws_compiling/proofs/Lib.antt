pub mod GrowthLemmas
pub mod KeyLemmas
