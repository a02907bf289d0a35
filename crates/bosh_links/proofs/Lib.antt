pub mod TableLemmas
pub mod LinksLemmas
