mod LineLemmas
mod ListLemmas
mod ListingLemmas
mod StampLemmas
