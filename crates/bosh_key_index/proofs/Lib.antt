pub mod ListedLemmas
