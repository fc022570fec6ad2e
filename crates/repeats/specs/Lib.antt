pub mod Held
pub mod Occurrences
pub mod Courses
pub mod Firsts
pub mod Listing
pub mod Cases
