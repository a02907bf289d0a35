pub mod JobSpec
pub mod Names
pub mod PackageSpec
