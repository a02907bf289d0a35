pub mod ApartLemmas
pub mod BlockLemmas
pub mod PlaceLemmas
