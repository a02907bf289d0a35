pub mod Progress
pub mod Quiet
pub mod Told
