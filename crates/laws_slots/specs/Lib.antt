pub mod Orphans
pub mod Slots
