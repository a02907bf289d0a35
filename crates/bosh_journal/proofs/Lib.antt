pub mod ChangeLemmas
pub mod LawLemmas
pub mod ReadLemmas
pub mod RestoreLemmas
pub mod SpelledLemmas
