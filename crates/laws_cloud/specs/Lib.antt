pub mod Cloud
