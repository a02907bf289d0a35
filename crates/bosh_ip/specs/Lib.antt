pub mod Address
pub mod Bytes
pub mod Network
pub mod Range
