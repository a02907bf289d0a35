pub mod DoesLemmas
pub mod FateLemmas
pub mod LawLemmas
pub mod LoadingLemmas
pub mod ReadLemmas
pub mod RunLemmas
