pub mod DiskStates
pub mod Following
pub mod Holders
pub mod Orderly
pub mod VmStates
