pub mod Held
pub mod Loose
pub mod Problems
pub mod Tables
