pub mod ActLemmas
pub mod DriveLemmas
pub mod KeepLemmas
