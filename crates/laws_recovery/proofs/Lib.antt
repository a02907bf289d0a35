pub mod EndedLemmas
pub mod FirstLemmas
pub mod OpenLemmas
pub mod RestLemmas
