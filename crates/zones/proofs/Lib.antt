pub mod Resolved
pub mod OneOffset
pub mod Searched
pub mod Pieces
pub mod Moments
pub mod Bounds
