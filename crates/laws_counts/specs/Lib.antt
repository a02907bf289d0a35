pub mod Counts
pub mod Courses
pub mod CourseFacts
pub mod RowSteps
