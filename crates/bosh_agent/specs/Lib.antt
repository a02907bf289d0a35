pub mod Agent
pub mod Change
pub mod Compiled
pub mod Numbers
pub mod Slots
