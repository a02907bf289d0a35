pub mod CompileMachines
