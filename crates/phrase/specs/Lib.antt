pub mod Tree
pub mod DateTimes
pub mod Chains
pub mod Outlines
pub mod Formed
pub mod Read
pub mod Cases
