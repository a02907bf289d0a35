pub mod SilentExample
