pub mod Snapshot
pub mod View
