pub mod DamageLemmas
pub mod FreshLemmas
pub mod LeftLemmas
pub mod OutsideLemmas
pub mod ShippedLemmas
