pub mod Joined
pub mod Offsets
pub mod Planned
pub mod Small
