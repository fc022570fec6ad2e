pub mod Grammar
pub mod Offsets
pub mod Fractions
pub mod Readings
pub mod Writings
pub mod WrittenReads
pub mod ReadWrites
