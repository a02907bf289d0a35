pub mod Applied
pub mod Known
pub mod Machines
pub mod Moving
pub mod Rows
