pub mod AllowedLemmas
pub mod FitLemmas
pub mod MoveLemmas
pub mod NoteLemmas
pub mod ReadLemmas
pub mod StoredLemmas
pub mod TellableLemmas
pub mod WalkLemmas
