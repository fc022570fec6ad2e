pub mod Numbers
pub mod Steps
pub mod Fitting
pub mod Lists
pub mod Runs
pub mod ByKind
