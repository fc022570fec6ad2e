-- Three lexemes are taken for each part of a date expression, and its duration stands at its place.
use Prim.Native.Nat.{ℕ, ◌+◌, ◌*◌, ◌≤◌, ◌<◌}
use native.Mathlib.Omega.{arith}
use native.Mathlib.Nat.{add-zero}
use mathlib.Core.Path.{◌≡◌, refl}
use mathlib.Core.Bool.{true, ◌&&◌, not}
use mathlib.Core.List.{List, [], ◌∷◌}
use lib.ListN.{length, drop, length-drop}
use lib.Seq.{drop-drop}
use Rattle.lexer.specs.Lexemes as lexeme
use Rattle.lexer.specs.declared.reading.Reading.{Reading}
use Rattle.lexer.specs.declared.reading.Reading.TheVariants.{First, Second}
use Rattle.numbers.specs.Slices.{is_at}
use Rattle.numbers.proofs.LexemeAt.{both, at_most, there}
use Rattle.dates.specs.Parsed.{Parsed, is, if_let, and_then}
use Rattle.dates.specs.Units.{unit_of, weekday_of, relative_specifier_of}
use Rattle.dates.specs.Durations.{Duration, into, size, is_sub_daily, duration_of}
use Rattle.dates.specs.Dates.{date_of}
use Rattle.dates.specs.declared.date.Date.{Date}
use Rattle.dates.specs.declared.duration.Parts.{Parts}
use Rattle.dates.proofs.Each.{Each, let_each, pick_each, if_let_each, then_each}
use Rattle.dates.proofs.Parsed.{found}
use Rattle.dates.proofs.LexemesTaken.{unit_took, weekday_took, specifier_took, date_took}
use Rattle.dates.proofs.Durations.{duration_bounds, into_n}
use Rattle.expressions.specs.Tree.{DateExpr, after}
use Rattle.expressions.specs.DateExprs.{Tail, relative, ago, inside, stray, in_tail_of, duration_tail_of, tail_of, with_date, with_weekday}
use Rattle.expressions.specs.DateExprs.{with_duration_of, relative_expr_of, weekday_expr_of, undated_of, date_expr_of}
use Rattle.expressions.specs.Shapes.{own_of, of_own, into_expr, size_expr, OwnStands}
use Rattle.expressions.specs.ExprAnswers.{tail_place, place_let, tail_at, weekday_place, undated_place, expr_place, place_at}

-- t lexemes were read of l: three for each part of a duration that stands at p, if there is one
pub record Read (reading : Reading) (own : List Duration) (p t : ℕ) (l : List ℕ) : Type 0 where
  pub least : 1 ≤ t
  pub most : t ≤ length l
  pub few : 3 * of_own 0 size own ≤ t
  pub within : p ≤ t
  pub stands : OwnStands reading own (drop p l)

-- with no duration
bare : {reading : Reading} {t : ℕ} {l : List ℕ} → 1 ≤ t → t ≤ length l → Read reading [] 0 t l
bare a b = record { least = a; most = b; few = omega arith; within = omega arith; stands = tt }

-- with a duration of u lexemes
held : (reading : Reading) (l : List ℕ) (p : ℕ) {dur : Duration} {u : ℕ} (t : ℕ) → duration_of reading (drop p l) ≡ is dur u → u < t → p ≤ t → t ≤ length l
    → Read reading (dur ∷ []) p t l
held reading l p {u = u} t e a b c =
    let s = duration_bounds reading (drop p l) e in
    record { least = omega arith; most = c; few = omega arith; within = b; stands = record { taken = u; reading = e } }

-- the same from t lexemes before on
further : {reading : Reading} {own : List Duration} {p u : ℕ} (t : ℕ) (l : List ℕ) → t ≤ length l → Read reading own p u (drop t l)
    → Read reading own (t + p) (t + u) l
further {reading} {own} {p} {u} t l a h =
    let left = length-drop t l in
    let m = h.most in
    record {
      least = omega (arith, h.least);
      most = omega arith;
      few = omega (arith, h.few);
      within = omega (arith, h.within);
      stands = rw (drop-drop p t l) at h.stands;
    }

abbrev own_tail : Tail → List Duration
own_tail (relative s u) = []
own_tail (ago dur) = dur ∷ []
own_tail (inside dur) = dur ∷ []
own_tail stray = []

abbrev TailRead : Reading → List ℕ → Tail → ℕ → Type 0
TailRead reading l x t = Read reading (own_tail x) (tail_place (is x t)) t l

abbrev pub ExprRead : Reading → List ℕ → ℕ → DateExpr → ℕ → Type 0
ExprRead reading l p x t = Read reading (own_of x) (place_at p x) t l

in_tail_read : (reading : Reading) (l : List ℕ) → Each (TailRead reading l) (in_tail_of reading l)
unfolding in_tail_of
in_tail_read reading l =
    pick_each (is_at l 0 lexeme.In)
    (λ e. let some = there (at_most l 0 lexeme.In) e in
    if_let_each (duration_of reading (drop 1 l)) _ _
    (λ dur t f. let left = length-drop 1 l in let s = duration_bounds reading (drop 1 l) f in
    pick_each (is_sub_daily dur) (λ g. record { bounds = bare (omega arith) (omega arith) })
    (λ g. record { bounds = held reading l 1 (1 + t) f (omega arith) (omega arith) (omega arith) }))
    (record { bounds = bare (omega arith) (omega arith) }))
    (λ e. record { bounds = tt })

duration_tail_read : (reading : Reading) (l : List ℕ) → Each (TailRead reading l) (duration_tail_of reading l)
unfolding duration_tail_of
duration_tail_read reading l =
    if_let_each (duration_of reading l) _ _
    (λ dur t e. let s = duration_bounds reading l e in
    pick_each (is_at l t lexeme.Ago && not (is_sub_daily dur))
    (λ f. let some = there (at_most l t lexeme.Ago) (both (is_at l t lexeme.Ago) _ f).0 in
    record { bounds = held reading l 0 (t + 1) e (omega arith) (omega arith) (omega arith) })
    (λ f. record { bounds = bare (omega arith) (omega arith) }))
    (in_tail_read reading l)

tail_read : (reading : Reading) (l : List ℕ) → Each (TailRead reading l) (tail_of reading l)
unfolding tail_of
tail_read reading l =
    if_let_each (relative_specifier_of l) _ _
    (λ s t e. let a = found e (specifier_took l) in let left = length-drop t l in
    if_let_each (unit_of (drop t l)) _ _
    (λ u k f. let b = found f (unit_took (drop t l)) in record { bounds = bare (omega arith) (omega arith) })
    (record { bounds = bare a.0 a.1 }))
    (duration_tail_read reading l)

module _ (l : List ℕ) (t : ℕ) (a : (1 ≤ t) × (t ≤ length l)) where
  abbrev Tailed : Reading → (Tail → ℕ → Parsed DateExpr) → Type 0
  Tailed reading f = (x : Tail) (u : ℕ) → Read reading (own_tail x) (t + tail_place (is x u)) (t + u) l → Each (ExprRead reading l (t + tail_place (is x u))) (f x u)

  date_tailed : (reading : Reading) (d : Date) → Tailed reading (with_date d t)
  date_tailed reading d (relative s k) u h = record { bounds = bare h.least h.most }
  date_tailed reading d (ago dur) u h = record { bounds = h }
  date_tailed reading d (inside dur) u h = record { bounds = h }
  date_tailed reading d stray u h = record { bounds = bare a.0 a.1 }

  weekday_tailed : (reading : Reading) (w : ℕ) → Tailed reading (with_weekday reading w t)
  weekday_tailed reading w (relative s k) u h = record { bounds = bare h.least h.most }
  weekday_tailed reading w (ago dur) u h = record { bounds = h }
  weekday_tailed First w (inside dur) u h = record { bounds = h }
  weekday_tailed Second w (inside dur) u h = record { bounds = h }
  weekday_tailed reading w stray u h = record { bounds = bare h.least h.most }

  -- a head of t lexemes, and its tail
  head_read : (reading : Reading) (f : Tail → ℕ → Parsed DateExpr) (x : DateExpr) → own_of x ≡ [] → Tailed reading f
      → Each (ExprRead reading l (tail_at reading l t)) (if_let (tail_of reading (drop t l)) f (is x t))
  head_read reading f x e g =
      let_each (λ w. ExprRead reading l (t + tail_place w)) (tail_of reading (drop t l)) _ _
      (λ y u e. g y u (further t l a.1 (rw e at (tail_read reading (drop t l))).bounds))
      (record { bounds = rw e (bare a.0 a.1) })

-- a word behind a duration of t lexemes, and u lexemes more
behind : (reading : Reading) (l : List ℕ) {dur : Duration} {t : ℕ} (x u : ℕ) → duration_of reading l ≡ is dur t → is_at l t x ≡ true → u ≤ length (drop (t + 1) l)
    → Read reading (dur ∷ []) 0 (t + 1 + u) l
behind reading l {t = t} x u e f a =
    let some = there (at_most l t x) f in
    let left = length-drop (t + 1) l in
    held reading l 0 (t + 1 + u) e (omega arith) (omega arith) (omega arith)

with_duration_read : (reading : Reading) (l : List ℕ) (dur : Duration) (t : ℕ) → duration_of reading l ≡ is dur t → Each (ExprRead reading l 0) (with_duration_of reading dur t l)
unfolding with_duration_of
with_duration_read reading l dur t e =
    pick_each (is_sub_daily dur) (λ f. record { bounds = tt })
    (λ f. pick_each (is_at l t lexeme.Ago) (λ g. record { bounds = rw (← (add-zero (t + 1))) (behind reading l lexeme.Ago 0 e g (omega arith)) })
    (λ g. pick_each (is_at l t lexeme.After) (dated lexeme.After)
    (λ h. pick_each (is_at l t lexeme.From) (dated lexeme.From) (λ i. record { bounds = tt }))))
  where
    dated : (x : ℕ) → is_at l t x ≡ true → Each (ExprRead reading l 0) (and_then (date_of reading (drop (t + 1) l)) (λ d u. is (after dur d) (t + 1 + u)))
    dated x f = then_each _ _ (λ d u g. record { bounds = behind reading l x u e f (found g (date_took reading (drop (t + 1) l))).1 })

relative_read : (reading : Reading) (l : List ℕ) → Each (ExprRead reading l 0) (relative_expr_of l)
unfolding relative_expr_of
relative_read reading l =
    then_each (relative_specifier_of l) _ (λ s t e. let a = found e (specifier_took l) in let left = length-drop t l in
    if_let_each (weekday_of (drop t l)) _ _
    (λ w u f. let b = found f (weekday_took (drop t l)) in record { bounds = bare (omega arith) (omega arith) })
    (then_each (unit_of (drop t l)) _
    (λ u k f. let b = found f (unit_took (drop t l)) in record { bounds = bare (omega arith) (omega arith) })))

weekday_read : (reading : Reading) (l : List ℕ) → Each (ExprRead reading l (weekday_place reading l)) (weekday_expr_of reading l)
unfolding weekday_expr_of
weekday_read reading l =
    let_each (λ w. ExprRead reading l (place_let w (tail_at reading l) 0)) (weekday_of l) _ _
    (λ w t e. let a = found e (weekday_took l) in head_read l t a reading _ _ refl (weekday_tailed l t a reading w))
    (relative_read reading l)

undated_read : (reading : Reading) (l : List ℕ) → Each (ExprRead reading l (undated_place reading l)) (undated_of reading l)
unfolding undated_of
undated_read reading l =
    let_each (λ w. ExprRead reading l (place_let w (λ t. 0) (weekday_place reading l))) (duration_of reading l) _ _ (with_duration_read reading l) (weekday_read reading l)

-- a date expression
pub expr_few : (reading : Reading) (l : List ℕ) → Each (ExprRead reading l (expr_place reading l)) (date_expr_of reading l)
unfolding date_expr_of
expr_few reading l =
    let_each (λ w. ExprRead reading l (place_let w (tail_at reading l) (undated_place reading l))) (date_of reading l) _ _
    (λ d t e. let a = found e (date_took reading l) in head_read l t a reading _ _ refl (date_tailed l t a reading d))
    (undated_read reading l)

-- the row has as many parts more as the date expression
pub into_expr_n : (x : DateExpr) (ps : Parts) → (into_expr x ps).n ≡ ps.n + size_expr x
into_expr_n x ps = go (own_of x)
  where
    go : (own : List Duration) → (of_own ps (λ dur. into dur ps) own).n ≡ ps.n + of_own 0 size own
    go [] = omega arith
    go (dur ∷ none) = into_n dur ps
