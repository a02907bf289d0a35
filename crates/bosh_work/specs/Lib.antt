pub mod Finished
pub mod Line
pub mod Part
pub mod Rolling
pub mod Work
