pub mod HistoryLemmas
mod MethodLemmas
pub mod VersionLemmas
pub mod VersionOrderLemmas
