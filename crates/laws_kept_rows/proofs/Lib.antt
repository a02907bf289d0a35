pub mod BeginLemmas
pub mod NotedLemmas
pub mod OtherLemmas
pub mod OwnLemmas
pub mod PartLemmas
pub mod RowLemmas
