pub mod Orderly
pub mod Rows
pub mod Changes
pub mod Happens
pub mod Made
pub mod Steps
