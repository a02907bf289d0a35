pub mod Extends
pub mod Gates
pub mod Grows
pub mod Laws
pub mod Lends
pub mod Steps
pub mod Views
