-- The code's answer for a date expression has the bounds that it promises, and behind the last lexeme no tail is read.
use Prim.Native.Nat.{ℕ, ◌≤◌}
use mathlib.Core.Path.{◌≡◌, refl}
use mathlib.Core.List.{List, []}
use lib.ListN.{length, drop, drop_of_length-le}
use Rattle.lexer.specs.declared.reading.Reading.{Reading}
use Rattle.std.specs.Prelude.{Option, Result}
use Rattle.numbers.specs.declared.Overflow.{Overflow}
use Rattle.numbers.specs.Slices.{get, within, is_at}
use Rattle.numbers.specs.Again.{turns, again}
use Rattle.numbers.specs.Numbers.{begins_number}
use Rattle.numbers.proofs.Begins.{no_num}
use Rattle.dates.specs.Parsed.{Parsed, is, nothing, overflow}
use Rattle.dates.specs.Units.{is_article, relative_specifier_of}
use Rattle.dates.specs.Durations.{specific_of, article_of, concrete_of, duration_turn, duration_of}
use Rattle.dates.proofs.Each.{Each}
use Rattle.expressions.specs.Tree.{DateExpr}
use Rattle.expressions.specs.DateExprs.{in_tail_of, duration_tail_of, tail_of, date_expr_of}
use Rattle.expressions.specs.ExprAnswers.{expr_place, answer_at, expr_answer, ExprCounted}
use Rattle.expressions.specs.declared.expr.Dated.{Dated}
use Rattle.expressions.proofs.OwnDuration.{ExprRead, expr_few}

counted : (reading : Reading) (l : List ℕ) (p : ℕ) (w : Parsed DateExpr) → Each (ExprRead reading l p) w → ExprCounted (answer_at p w) (length l)
counted reading l p (is x t) h = let b = h.bounds in record { bounds = (b.least, b.most, b.within) }
counted reading l p nothing h = record { bounds = tt }
counted reading l p overflow h = record { bounds = tt }

-- what `read_expr` promises
pub expr_promised : {r : Result (Option Dated) Overflow} (reading : Reading) (l : List ℕ) → r ≡ expr_answer reading l (date_expr_of reading l)
    → (r ≡ expr_answer reading l (date_expr_of reading l)) × ExprCounted r (length l)
expr_promised reading l e = (e, rw e (counted reading l (expr_place reading l) (date_expr_of reading l) (expr_few reading l)))

-- behind the last lexeme stands no tail
pub tail_none : (reading : Reading) (l : List ℕ) (t : ℕ) → length l ≤ t → tail_of reading (drop t l) ≡ nothing
unfolding get is_at within begins_number is_article relative_specifier_of specific_of article_of concrete_of turns again duration_turn duration_of
    in_tail_of duration_tail_of tail_of
tail_none reading l t h = rw (drop_of_length-le l h, no_num reading [] refl)
