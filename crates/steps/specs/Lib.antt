pub mod Joining
pub mod Running
pub mod Plans
pub mod Cases
