pub mod Collected
pub mod Draft
pub mod Prints
pub mod Sound
pub mod Spec
pub mod Table
