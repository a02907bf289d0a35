pub mod FateRuns
pub mod Fates
