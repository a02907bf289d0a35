pub mod Grammar
pub mod Kinds
pub mod Owners
pub mod Places
pub mod Words
