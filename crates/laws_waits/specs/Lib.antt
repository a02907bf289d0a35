pub mod Hands
pub mod Opened
