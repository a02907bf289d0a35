pub mod Answer
pub mod Edition
pub mod Used
pub mod Uses
pub mod Disk
pub mod Sources
