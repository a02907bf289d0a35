pub mod Planned
pub mod Read
