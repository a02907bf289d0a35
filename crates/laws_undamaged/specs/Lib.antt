pub mod Settled
pub mod Uploads
