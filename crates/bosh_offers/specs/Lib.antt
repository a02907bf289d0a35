pub mod Sited
pub mod Offers
pub mod Tied
