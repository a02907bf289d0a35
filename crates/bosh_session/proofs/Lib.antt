pub mod AloneLemmas
pub mod EachLemmas
pub mod OpenLemmas
pub mod OrderLemmas
pub mod TakeLemmas
pub mod TellLemmas
pub mod TogetherLemmas
