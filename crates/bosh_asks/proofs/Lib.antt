pub mod AnswerLemmas
pub mod ChangeLemmas
pub mod GoalLemmas
pub mod OverLemmas
