pub mod Candidate
pub mod Links
pub mod Table
