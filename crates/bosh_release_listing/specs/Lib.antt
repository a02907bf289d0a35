pub mod Laws
pub mod Lines
pub mod Listing
pub mod Parts
