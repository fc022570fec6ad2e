pub mod Zones
pub mod File
pub mod Read
pub mod Cases
