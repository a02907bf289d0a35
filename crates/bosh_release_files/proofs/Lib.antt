pub mod EachLemmas
mod FolderLemmas
pub mod IndexLemmas
pub mod OrderLemmas
mod PathLemmas
mod SpanLemmas
mod TakingLemmas
