pub mod Commands
pub mod Ended
pub mod Lines
pub mod Reading
