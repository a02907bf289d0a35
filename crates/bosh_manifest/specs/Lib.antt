pub mod Answer
pub mod Check
pub mod Group
pub mod Manifest
pub mod Sound
