-- The code's answer for a date expression: its shape, its count, and the place of its duration among the lexemes that it was read of.
use Rattle.std.specs.Prelude.{ℕ, ◌+◌, ◌≤◌, Option, Some, None, Result, Ok, Err, List, drop}
use Rattle.lexer.specs.declared.reading.Reading.{Reading}
use Rattle.numbers.specs.declared.Overflow.{Overflow}
use Rattle.numbers.specs.Answers.{overflow as large}
use Rattle.dates.specs.Parsed.{Parsed, is, nothing, overflow, if_let}
use Rattle.dates.specs.Units.{weekday_of}
use Rattle.dates.specs.Durations.{duration_of}
use Rattle.dates.specs.Dates.{date_of}
use Rattle.expressions.specs.Tree.{DateExpr}
use Rattle.expressions.specs.DateExprs.{Tail, relative, ago, inside, stray, tail_of, with_date, with_weekday}
use Rattle.expressions.specs.Shapes.{shape, own_of, of_own}
use Rattle.expressions.specs.declared.expr.Head.{Head}
use Rattle.expressions.specs.declared.expr.Head.TheVariants.{Date, Weekday}
use Rattle.expressions.specs.declared.expr.Dated.{Dated}

-- where the duration of a tail begins: behind its "in"
abbrev pub tail_place : Parsed Tail → ℕ
tail_place (is (relative s u) t) = 0
tail_place (is (ago d) t) = 0
tail_place (is (inside d) t) = 1
tail_place (is stray t) = 0
tail_place nothing = 0
tail_place overflow = 0

-- a place behind what was read, and z where nothing was
abbrev pub place_let : {A : Type 0} → Parsed A → (ℕ → ℕ) → ℕ → ℕ
place_let (is v t) at z = at t
place_let nothing at z = z
place_let overflow at z = 0

-- the duration of a tail that stands at t
abbrev pub tail_at : Reading → List ℕ → ℕ → ℕ
tail_at reading l t = t + tail_place (tail_of reading (drop t l))

-- where a duration begins, in the order of `date_expr_of`: from the weekday on
abbrev pub weekday_place : Reading → List ℕ → ℕ
weekday_place reading l = place_let (weekday_of l) (tail_at reading l) 0

-- from the duration on
abbrev pub undated_place : Reading → List ℕ → ℕ
undated_place reading l = place_let (duration_of reading l) (λ t. 0) (weekday_place reading l)

-- of a whole date expression
abbrev pub expr_place : Reading → List ℕ → ℕ
expr_place reading l = place_let (date_of reading l) (tail_at reading l) (undated_place reading l)

-- p for a date expression with a duration, 0 for one without
abbrev pub place_at : ℕ → DateExpr → ℕ
place_at p x = of_own 0 (λ dur. p) (own_of x)

-- where the duration of a date expression begins among the lexemes that it was read of
abbrev pub own_place : Reading → List ℕ → DateExpr → ℕ
own_place reading l x = place_at (expr_place reading l) x

-- the code's answer, whose duration begins at p
abbrev pub answer_at : ℕ → Parsed DateExpr → Result (Option Dated) Overflow
answer_at p (is x t) = Ok (Some (record { expr = shape x; taken = t; own = place_at p x }))
answer_at p nothing = Ok None
answer_at p overflow = Err large

-- the code's answer for a date expression that was read of l: `shape x`, `t` and `own_place reading l x` of `is x t`
abbrev pub expr_answer : Reading → List ℕ → Parsed DateExpr → Result (Option Dated) Overflow
expr_answer reading l w = answer_at (expr_place reading l) w

-- a head with the tail that was read behind it
abbrev pub with_head : Reading → Head → ℕ → Tail → ℕ → Parsed DateExpr
with_head reading (Date d) t x u = with_date d t x u
with_head reading (Weekday w) t x u = with_weekday reading w t x u

-- the code's answer for a head of t lexemes and what was read behind it; alone it is as with a tail of no lexemes that is given up
abbrev pub tailed_answer : Reading → Head → ℕ → Parsed Tail → Result (Option Dated) Overflow
tailed_answer reading h t p = answer_at (t + tail_place p) (if_let p (with_head reading h t) (with_head reading h t stray 0))

-- the bounds of `ExprCounted`
abbrev pub ExprBounds : Result (Option Dated) Overflow → ℕ → Type 0
ExprBounds (Ok (Some d)) n = (1 ≤ d.taken) × (d.taken ≤ n) × (d.own ≤ d.taken)
ExprBounds (Ok None) n = Unit
ExprBounds (Err e) n = Unit

-- at least one and at most n lexemes, and the duration begins within them
pub record ExprCounted (r : Result (Option Dated) Overflow) (n : ℕ) : Type 0 where
  pub bounds : ExprBounds r n
