pub mod Apart
pub mod Least
pub mod Order
