pub mod Cloud
pub mod Instances
pub mod Orphans
pub mod Releases
pub mod Tasks
