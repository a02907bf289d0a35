pub mod First
pub mod Interrupted
