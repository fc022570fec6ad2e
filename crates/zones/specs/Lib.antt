pub mod Civil
pub mod Instants
pub mod Search
pub mod Cases
