pub mod CloudView
pub mod Faults
pub mod Loading
pub mod Notes
pub mod Performs
pub mod Reads
pub mod Runs
