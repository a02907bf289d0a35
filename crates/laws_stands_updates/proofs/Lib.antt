pub mod DisksLeftLemmas
pub mod FinishedLemmas
pub mod GoneLemmas
pub mod InstanceLemmas
pub mod LeaveLemmas
pub mod LeftLemmas
pub mod UpdateDoneLemmas
