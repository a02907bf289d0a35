pub mod GroupRoll
pub mod Limit
pub mod Upd
