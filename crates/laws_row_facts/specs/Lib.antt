pub mod Calls
pub mod Cloud
pub mod Numbers
pub mod Rows
pub mod Words
