pub mod OwnDuration
pub mod ExprAnswers
pub mod Small
pub mod Plain
