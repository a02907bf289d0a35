pub mod AllowedLemmas
pub mod OpeningLemmas
