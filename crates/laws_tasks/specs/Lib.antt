pub mod Lists
pub mod Updates
