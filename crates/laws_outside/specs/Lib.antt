pub mod Packages
pub mod Releases
pub mod Configs
pub mod Shipped
pub mod Examples
