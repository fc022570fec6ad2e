pub mod LexemeAt
pub mod Again
pub mod NumberAnswers
pub mod NumberBounds
pub mod NumStep
pub mod Begins
pub mod Alone
pub mod Plain
