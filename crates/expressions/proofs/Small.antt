-- Every number of a date expression that is read is below 2 ^ 32.
use Prim.Native.Nat.{ℕ, ◌+◌}
use mathlib.Core.Bool.{◌&&◌, not}
use mathlib.Core.List.{List}
use lib.ListN.{drop}
use Rattle.lexer.specs.Lexemes as lexeme
use Rattle.lexer.specs.declared.reading.Reading.{Reading}
use Rattle.lexer.specs.declared.reading.Reading.TheVariants.{First, Second}
use Rattle.numbers.specs.Slices.{is_at}
use Rattle.dates.specs.Parsed.{is, and_then}
use Rattle.dates.specs.Dates.{date_of}
use Rattle.dates.specs.Units.{unit_of, relative_specifier_of}
use Rattle.dates.specs.Durations.{Duration, is_sub_daily}
use Rattle.dates.specs.declared.date.Date.{Date}
use Rattle.dates.proofs.Each.{Gives, nothing_gives, is_gives, pick_gives, then_each, then_gives, if_let_each, if_let_gives}
use Rattle.dates.proofs.Small.{Small, SmallDate, SmallDuration}
use Rattle.dates.proofs.Small.{date_small, weekday_small, duration_small}
use Rattle.expressions.specs.Tree.{DateExpr, date, date_relative, date_expression_after, date_expression_before, unit_relative}
use Rattle.expressions.specs.Tree.{relative_weekday, weekday_relative, weekday_expression_before, weekday_expression_after, before, after, weekday, empty}
use Rattle.expressions.specs.DateExprs.{Tail, relative, ago, inside, stray, in_tail_of, duration_tail_of, tail_of, with_date, with_weekday}
use Rattle.expressions.specs.DateExprs.{with_duration_of, relative_expr_of, weekday_expr_of, undated_of, date_expr_of}

-- every number of a date expression
abbrev pub SmallExpr : DateExpr → Type 0
SmallExpr (date d) = SmallDate d
SmallExpr (date_relative d s u) = SmallDate d
SmallExpr (date_expression_after d dur) = SmallDate d × SmallDuration dur
SmallExpr (date_expression_before d dur) = SmallDate d × SmallDuration dur
SmallExpr (unit_relative s u) = Unit
SmallExpr (relative_weekday s w) = Small w
SmallExpr (weekday_relative w s u) = Small w
SmallExpr (weekday_expression_before w dur) = Small w × SmallDuration dur
SmallExpr (weekday_expression_after w dur) = Small w × SmallDuration dur
SmallExpr (before dur d) = SmallDate d × SmallDuration dur
SmallExpr (after dur d) = SmallDate d × SmallDuration dur
SmallExpr (weekday w) = Small w
SmallExpr empty = Unit

-- of a tail
abbrev SmallTail : Tail → Type 0
SmallTail (relative s u) = Unit
SmallTail (ago d) = SmallDuration d
SmallTail (inside d) = SmallDuration d
SmallTail stray = Unit

tail_small : (reading : Reading) (l : List ℕ) → Gives SmallTail (tail_of reading l)
unfolding tail_of duration_tail_of in_tail_of
tail_small reading l =
    if_let_each (relative_specifier_of l) _ _
    (λ s t e. if_let_each (unit_of (drop t l)) _ _ (λ u k f. is_gives tt) (is_gives tt))
    (if_let_gives _ (duration_small reading l)
    (λ d t a. pick_gives (is_at l t lexeme.Ago && not (is_sub_daily d)) (is_gives a) (is_gives tt))
    (pick_gives (is_at l 0 lexeme.In)
    (if_let_gives _ (duration_small reading (drop 1 l)) (λ d t a. pick_gives (is_sub_daily d) (is_gives tt) (is_gives a)) (is_gives tt))
    nothing_gives))

date_tail : (d : Date) (t : ℕ) (x : Tail) (u : ℕ) → SmallDate d → SmallTail x → Gives SmallExpr (with_date d t x u)
date_tail d t (relative s k) u a b = is_gives a
date_tail d t (ago dur) u a b = is_gives (a, b)
date_tail d t (inside dur) u a b = is_gives (a, b)
date_tail d t stray u a b = is_gives a

weekday_tail : (reading : Reading) (w t : ℕ) (x : Tail) (u : ℕ) → Small w → SmallTail x → Gives SmallExpr (with_weekday reading w t x u)
weekday_tail reading w t (relative s k) u a b = is_gives a
weekday_tail reading w t (ago dur) u a b = is_gives (a, b)
weekday_tail First w t (inside dur) u a b = is_gives (a, b)
weekday_tail Second w t (inside dur) u a b = is_gives (a, b)
weekday_tail reading w t stray u a b = is_gives a

after_small : (reading : Reading) (dur : Duration) (t : ℕ) (l : List ℕ) → SmallDuration dur →
    Gives SmallExpr (and_then (date_of reading (drop (t + 1) l)) (λ d u. is (after dur d) (t + 1 + u)))
after_small reading dur t l a = then_gives _ (date_small reading (drop (t + 1) l)) (λ d u b. is_gives (b, a))

with_duration_small : (reading : Reading) (dur : Duration) (t : ℕ) (l : List ℕ) → SmallDuration dur → Gives SmallExpr (with_duration_of reading dur t l)
unfolding with_duration_of
with_duration_small reading dur t l a =
    pick_gives (is_sub_daily dur) nothing_gives
    (pick_gives (is_at l t lexeme.Ago) (is_gives (tt, a))
    (pick_gives (is_at l t lexeme.After) (after_small reading dur t l a)
    (pick_gives (is_at l t lexeme.From) (after_small reading dur t l a) nothing_gives)))

weekday_expr_small : (reading : Reading) (l : List ℕ) → Gives SmallExpr (weekday_expr_of reading l)
unfolding weekday_expr_of relative_expr_of
weekday_expr_small reading l =
    if_let_gives _ (weekday_small l)
    (λ w t a. if_let_gives _ (tail_small reading (drop t l)) (λ x u b. weekday_tail reading w t x u a b) (is_gives a))
    (then_each (relative_specifier_of l) _ (λ s t e.
    if_let_gives _ (weekday_small (drop t l)) (λ w u b. is_gives b)
    (then_each (unit_of (drop t l)) _ (λ k u f. is_gives tt))))

-- a date expression
pub expr_small : (reading : Reading) (l : List ℕ) → Gives SmallExpr (date_expr_of reading l)
unfolding date_expr_of undated_of
expr_small reading l =
    if_let_gives _ (date_small reading l)
    (λ d t a. if_let_gives _ (tail_small reading (drop t l)) (λ x u b. date_tail d t x u a b) (is_gives a))
    (if_let_gives _ (duration_small reading l) (λ dur t a. with_duration_small reading dur t l a) (weekday_expr_small reading l))
