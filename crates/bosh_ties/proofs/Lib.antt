pub mod LinksLemmas
