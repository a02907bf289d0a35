pub mod Parsed
pub mod Gathered
pub mod Budget
pub mod Files
