pub mod Acts
pub mod Keeps
