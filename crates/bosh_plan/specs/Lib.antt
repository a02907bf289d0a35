pub mod Begun
pub mod Closed
pub mod Ended
pub mod Grouping
pub mod Opened
pub mod Roomy
pub mod Updated
pub mod WorkBy
