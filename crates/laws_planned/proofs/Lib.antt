pub mod OpeningLemmas
pub mod PlanLemmas
pub mod ReadLemmas
