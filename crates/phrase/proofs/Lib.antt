pub mod Stands
pub mod Outlining
pub mod Decoded
pub mod Formed
pub mod Gathering
pub mod Phrases
pub mod Small
pub mod Plain
