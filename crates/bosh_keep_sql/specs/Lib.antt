pub mod Ending
pub mod Faults
pub mod Holding
pub mod Loads
pub mod Rewrites
pub mod Rows
pub mod SqlView
pub mod Statements
