pub mod ActiveLemmas
pub mod CallLemmas
pub mod DiskLemmas
pub mod SameLemmas
pub mod StepLemmas
pub mod ToldLemmas
