pub mod ParsedLemmas
pub mod TakenLemmas
