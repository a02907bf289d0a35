pub mod Appends
pub mod Director
pub mod Faults
pub mod JournalView
pub mod Kept
pub mod Reads
pub mod Runs
pub mod Spelled
