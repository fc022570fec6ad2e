pub mod InOrder
pub mod Outcomes
pub mod Weekdays
pub mod Stated
pub mod Steps
pub mod Lists
pub mod Phrases
