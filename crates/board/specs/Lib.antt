pub mod Rows
pub mod Boards
pub mod Scans
