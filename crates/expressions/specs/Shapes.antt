-- A date expression without its duration, its duration, and the way back.
use Rattle.std.specs.Prelude.{ℕ, Bool, true, false, ◌≡◌, List, [], ◌∷◌}
use Rattle.lexer.specs.declared.reading.Reading.{Reading}
use Rattle.dates.specs.Parsed.{is}
use Rattle.dates.specs.Durations.{Duration, part, duration_of, into, size}
use Rattle.dates.specs.declared.duration.Part.TheVariants.{Article}
use Rattle.dates.specs.declared.duration.Parts.{Parts}
use Rattle.dates.specs.declared.units.Unit.TheVariants.{Day}
use Rattle.expressions.specs.Tree.{DateExpr, date, date_relative, date_expression_after, date_expression_before, unit_relative}
use Rattle.expressions.specs.Tree.{relative_weekday, weekday_relative, weekday_expression_before, weekday_expression_after, before, after, weekday, empty}
use Rattle.expressions.specs.declared.expr.Expr.{Expr}
use Rattle.expressions.specs.declared.expr.Expr.TheVariants.{Date as Dated, DateRelative, DateExpressionAfter, DateExpressionBefore}
use Rattle.expressions.specs.declared.expr.Expr.TheVariants.{UnitRelative, RelativeWeekday, WeekdayRelative, WeekdayExpressionBefore}
use Rattle.expressions.specs.declared.expr.Expr.TheVariants.{WeekdayExpressionAfter, Before, After, Weekday, Empty}

-- a date expression without its duration
abbrev pub shape : DateExpr → Expr
shape (date d) = Dated d
shape (date_relative d s u) = DateRelative d s u
shape (date_expression_after d dur) = DateExpressionAfter d
shape (date_expression_before d dur) = DateExpressionBefore d
shape (unit_relative s u) = UnitRelative s u
shape (relative_weekday s w) = RelativeWeekday s w
shape (weekday_relative w s u) = WeekdayRelative w s u
shape (weekday_expression_before w dur) = WeekdayExpressionBefore w
shape (weekday_expression_after w dur) = WeekdayExpressionAfter w
shape (before dur d) = Before d
shape (after dur d) = After d
shape (weekday w) = Weekday w
shape empty = Empty

-- its duration, where it has one
abbrev pub own_of : DateExpr → List Duration
own_of (date d) = []
own_of (date_relative d s u) = []
own_of (date_expression_after d dur) = dur ∷ []
own_of (date_expression_before d dur) = dur ∷ []
own_of (unit_relative s u) = []
own_of (relative_weekday s w) = []
own_of (weekday_relative w s u) = []
own_of (weekday_expression_before w dur) = dur ∷ []
own_of (weekday_expression_after w dur) = dur ∷ []
own_of (before dur d) = dur ∷ []
own_of (after dur d) = dur ∷ []
own_of (weekday w) = []
own_of empty = []

-- a date expression with its duration
abbrev pub expr_from : Expr → Duration → DateExpr
expr_from (Dated d) dur = date d
expr_from (DateRelative d s u) dur = date_relative d s u
expr_from (DateExpressionAfter d) dur = date_expression_after d dur
expr_from (DateExpressionBefore d) dur = date_expression_before d dur
expr_from (UnitRelative s u) dur = unit_relative s u
expr_from (RelativeWeekday s w) dur = relative_weekday s w
expr_from (WeekdayRelative w s u) dur = weekday_relative w s u
expr_from (WeekdayExpressionBefore w) dur = weekday_expression_before w dur
expr_from (WeekdayExpressionAfter w) dur = weekday_expression_after w dur
expr_from (Before d) dur = before dur d
expr_from (After d) dur = after dur d
expr_from (Weekday w) dur = weekday w
expr_from Empty dur = empty

-- z where there is no duration, and f of it where there is one
abbrev pub of_own : {A : Type 0} → A → (Duration → A) → List Duration → A
of_own z f [] = z
of_own z f (dur ∷ none) = f dur

-- whether a duration belongs to it: "a day", given to it, is its own
abbrev pub has_duration : Expr → Bool
has_duration e = of_own false (λ dur. true) (own_of (expr_from e (part (Article Day))))

-- the parts of its duration, where it has one, behind those of a row
abbrev pub into_expr : DateExpr → Parts → Parts
into_expr x ps = of_own ps (λ dur. into dur ps) (own_of x)

-- how many parts its duration has
abbrev pub size_expr : DateExpr → ℕ
size_expr x = of_own 0 size (own_of x)

-- a duration stands at the front of lexemes
pub record Stands (r : Reading) (dur : Duration) (l : List ℕ) : Type 0 where
  pub taken : ℕ
  pub reading : duration_of r l ≡ is dur taken

-- the duration that a date expression may have stands at the front of lexemes
abbrev pub OwnStands : Reading → List Duration → List ℕ → Type 0
OwnStands reading [] l = Unit
OwnStands reading (dur ∷ none) l = Stands reading dur l
