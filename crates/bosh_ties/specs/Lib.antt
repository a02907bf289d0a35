pub mod Links
pub mod Spot
