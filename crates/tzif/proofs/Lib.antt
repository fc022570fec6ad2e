pub mod Entries
pub mod Times
pub mod Blocks
pub mod Checked
