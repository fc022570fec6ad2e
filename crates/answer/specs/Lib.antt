pub mod Answer
pub mod Starred
