pub mod Stored
pub mod Names
pub mod Readings
pub mod ReadBack
pub mod Writings
