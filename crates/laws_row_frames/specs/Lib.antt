pub mod Others
pub mod Updates
