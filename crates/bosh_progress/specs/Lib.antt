pub mod Rolling
pub mod Tree
