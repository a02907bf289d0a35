pub mod Disk
pub mod Job
pub mod Link
pub mod Named
pub mod Network
pub mod Source
pub mod Unoffered
