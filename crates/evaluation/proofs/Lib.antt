pub mod Days
pub mod Rows
pub mod Links
