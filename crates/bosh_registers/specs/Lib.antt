pub mod Changes
pub mod Created
pub mod Grown
pub mod Store
