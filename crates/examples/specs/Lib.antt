pub mod Examples
pub mod Answers
