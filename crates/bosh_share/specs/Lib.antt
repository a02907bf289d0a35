pub mod Shared
pub mod Directory
