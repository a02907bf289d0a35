pub mod GrammarLemmas
pub mod NumberLemmas
pub mod TextLemmas
pub mod WordLemmas
