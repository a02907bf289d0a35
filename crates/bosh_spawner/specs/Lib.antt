pub mod Spawner
pub mod Outputs
pub mod MemSpawner
