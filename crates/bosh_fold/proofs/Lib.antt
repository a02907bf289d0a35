pub mod BringsLemmas
pub mod CameLemmas
pub mod ForgetLemmas
pub mod LearnsLemmas
pub mod OpenLemmas
