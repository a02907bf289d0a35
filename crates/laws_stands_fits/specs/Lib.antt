pub mod Fits
pub mod Own
pub mod Whole
pub mod Within
