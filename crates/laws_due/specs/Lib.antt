pub mod Answered
pub mod Asked
pub mod Counted
pub mod Opened
pub mod Replies
