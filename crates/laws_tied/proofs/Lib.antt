pub mod MadeLemmas
pub mod OwnedLemmas
pub mod TieLemmas
