pub mod StandLemmas
pub mod ThroughLemmas
pub mod UpdateLemmas
