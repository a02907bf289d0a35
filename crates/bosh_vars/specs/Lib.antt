pub mod Placeholder
pub mod Spelling
pub mod Result
pub mod Filled
pub mod Table
pub mod Size
