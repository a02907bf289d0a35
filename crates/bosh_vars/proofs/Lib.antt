pub mod TextLemmas
pub mod PlaceholderLemmas
pub mod TableLemmas
pub mod JoinedLemmas
pub mod TreeLemmas
pub mod SpellingLemmas
pub mod SizeLemmas
