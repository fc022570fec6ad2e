pub mod Answers
pub mod Nows
pub mod Lines
pub mod Texts
pub mod Output
pub mod Listing
