pub mod Tree
pub mod DateExprs
pub mod Shapes
pub mod ExprAnswers
pub mod ExprCases
