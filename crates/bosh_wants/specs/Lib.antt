pub mod Plans
pub mod Zones
pub mod Statics
pub mod Wants
