pub mod Grammar
pub mod Stamps
pub mod Cases
