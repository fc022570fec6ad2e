pub mod BoardNumbers
pub mod HandedOn
pub mod ListNumbers
pub mod NextNumbers
pub mod Readings
pub mod ReadyNumbers
pub mod WrittenBack
pub mod WrittenNumbers
