pub mod Amount
pub mod Update
pub mod WatchTime
