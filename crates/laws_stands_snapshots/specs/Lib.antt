pub mod Built
pub mod Readable
