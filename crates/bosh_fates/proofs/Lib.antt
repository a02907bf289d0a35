pub mod FateRunLemmas
