pub mod AddressLemmas
pub mod BytesLemmas
pub mod NetworkLemmas
pub mod RangeLemmas
