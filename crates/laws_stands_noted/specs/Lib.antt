pub mod Later
pub mod Settling
