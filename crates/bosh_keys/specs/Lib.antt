pub mod Works
pub mod Once
