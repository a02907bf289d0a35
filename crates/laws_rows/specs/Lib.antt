pub mod Answered
pub mod Left
pub mod Rightful
pub mod RowExample
pub mod SoundDisks
