pub mod Calls
pub mod Found
pub mod Good
pub mod Tasks
