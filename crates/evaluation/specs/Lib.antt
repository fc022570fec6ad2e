pub mod Worlds
pub mod Steps
pub mod Weekdays
pub mod Dates
pub mod Times
pub mod Cases
pub mod Evaluate
