pub mod DoneLemmas
pub mod HeldLemmas
pub mod PartLemmas
pub mod RestLemmas
pub mod SafeLemmas
