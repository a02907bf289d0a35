pub mod EachLemmas
pub mod FindLemmas
pub mod TableLemmas
