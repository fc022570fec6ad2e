pub mod Rule
pub mod Cut
pub mod Numbers
pub mod Days
pub mod Untils
pub mod Parts
pub mod Rules
pub mod Cases
