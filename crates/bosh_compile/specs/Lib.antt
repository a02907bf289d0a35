pub mod CompileOrder
pub mod KeySet
pub mod Level
pub mod Leveled
pub mod Listing
pub mod Readiness
pub mod Rounds
pub mod Table
