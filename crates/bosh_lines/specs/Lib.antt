pub mod Forms
pub mod Lines
pub mod Meaning
pub mod Tasks
pub mod Variable
pub mod Verbs
pub mod Words
