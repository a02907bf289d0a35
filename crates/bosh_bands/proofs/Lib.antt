pub mod CommonLemmas
pub mod LeastLemmas
