pub mod Counts
pub mod Next
pub mod Cases
