pub mod BuiltLemmas
pub mod ListedLemmas
pub mod MomentLemmas
pub mod SnapshotLemmas
pub mod TaskLemmas
