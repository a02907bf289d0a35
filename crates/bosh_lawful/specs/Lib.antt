pub mod Clean
pub mod Lawful
pub mod Workers
