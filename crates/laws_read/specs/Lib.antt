pub mod Allowed
pub mod AtRest
