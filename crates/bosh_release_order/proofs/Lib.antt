mod OrderLemmas
mod SearchLemmas
pub mod NumberLemmas
