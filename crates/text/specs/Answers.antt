-- What a phrase is answered at a now, as the crates below say it: the one place of this crate's definitions that names them.
pub use Rattle.refusals.specs.Table.{number_of}
pub use Rattle.refusals.specs.Answers.{Answer, given, refused, refuse, answer_from}
pub use Rattle.calendar.specs.Moments.{moment_of}
pub use Rattle.lexer.specs.declared.reading.Reading.TheVariants.{First}
unfoldable pub use Rattle.answer.specs.Answer.{answer_of}
pub use Rattle.answer.specs.Starred.{starred_as_listed}
unfoldable pub use Rattle.answer.specs.Starred.{starred}
