pub mod ClaimLemmas
pub mod ReadLemmas
pub mod SameCallLemmas
pub mod StandLemmas
