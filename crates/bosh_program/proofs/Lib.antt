mod EndLemmas
mod HeadlineLemmas
