pub mod Carried
pub mod Driven
pub mod Places
