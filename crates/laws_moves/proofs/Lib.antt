pub mod HaltLemmas
pub mod MoveLemmas
pub mod NoteLemmas
