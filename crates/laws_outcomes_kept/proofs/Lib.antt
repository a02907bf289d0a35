pub mod DiskLemmas
pub mod StandLemmas
