pub mod Bits
pub mod Cuts
pub mod Digits
pub mod Names
pub mod Readings
pub mod Orders
pub mod Letters
pub mod Ruled
