pub mod DirectoryLemmas
pub mod SharedLemmas
