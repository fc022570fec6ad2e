pub mod Each
pub mod Parsed
pub mod LexemesTaken
pub mod Durations
pub mod Small
pub mod Plain
