pub mod Goal
pub mod Instances
pub mod Anew
