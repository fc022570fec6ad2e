pub mod Bytes
pub mod Digits
pub mod Forms
pub mod Stores
