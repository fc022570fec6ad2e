pub mod Table
pub mod Answers
pub mod Writings
