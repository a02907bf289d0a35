pub mod FrontLemmas
pub mod WordLemmas
pub mod LookupLemmas
pub mod PathLemmas
pub mod RenderingLemmas
pub mod PartLemmas
