pub mod Few
pub mod Unfailed
