pub mod Nows
pub mod Crossing
