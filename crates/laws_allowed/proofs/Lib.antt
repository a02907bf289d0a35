mod BeginLemmas
pub mod CallLemmas
mod DiskLemmas
pub mod DoneLemmas
pub mod FailureLemmas
pub mod GoneLemmas
mod ListedLemmas
mod PlaceLemmas
mod PresentLemmas
pub mod SlotLemmas
mod SweepLemmas
pub mod TaskDoneLemmas
pub mod UpdateLemmas
pub mod UploadLemmas
pub mod WorkingLemmas
