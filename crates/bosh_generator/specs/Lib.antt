pub mod Manifest
pub mod Release
