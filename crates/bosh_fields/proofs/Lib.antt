pub mod AddressLemmas
pub mod BandLemmas
pub mod DistinctLemmas
pub mod EmptyLemmas
pub mod ListLemmas
