pub mod Answer
pub mod Files
pub mod Pattern
pub mod Sources
pub mod Span
