pub mod Slices
pub mod Again
pub mod Answers
pub mod Numbers
pub mod Written
pub mod Cases
