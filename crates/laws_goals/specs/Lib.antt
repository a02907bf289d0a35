pub mod Free
pub mod Kept
pub mod Keys
pub mod Records
pub mod Renewed
pub mod Rows
pub mod Ties
