pub mod GroupLemmas
pub mod ReadingLemmas
pub mod SoundLemmas
pub mod UpdateLemmas
