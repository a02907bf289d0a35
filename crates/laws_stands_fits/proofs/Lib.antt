pub mod EntriesLemmas
pub mod KeepsLemmas
pub mod OpsLemmas
pub mod SinceLemmas
pub mod StepsLemmas
