-- The bounds of each reader: how many lexemes it takes.
use mathlib.Core.Path.{◌≡◌, refl}
use mathlib.Core.Bool.{Bool, true}
use mathlib.Core.List.{List, [], ◌∷◌}
use Prim.Native.Nat.{ℕ, zero, suc, ◌+◌, ◌≤◌, ◌<◌, max}
use native.Mathlib.Omega.{arith}
use lib.Dec.{eqb, leb}
use lib.ListN.{length, drop, length-drop}
use borrow.Author.Tests.{eqb-true}
use Rattle.lexer.specs.Lexemes as lexeme
use Rattle.lexer.specs.declared.reading.Reading.{Reading}
use Rattle.lexer.specs.declared.reading.Reading.TheVariants.{First, Second}
use Rattle.numbers.specs.Slices.{get, is_at, within, one_if}
use Rattle.numbers.specs.Numbers.{begins_number, num_of}
use Rattle.numbers.proofs.LexemeAt.{one-most, within_bounds, at_most, there}
use Rattle.numbers.proofs.NumberBounds.{first, num_read}
use Rattle.numbers.proofs.Begins.{no_num}
use Rattle.dates.specs.Parsed.{nothing, parsed_number, Took}
use Rattle.dates.specs.Units.{is_article, unit_of, month_of, weekday_of, relative_specifier_of}
use Rattle.dates.specs.Dates.{named_day_of, day_month_year_of, year_of, comma_in, month_day_of, is_delim, behind_second_of, delimited_of, date_of}
use Rattle.dates.specs.Times.{minute_of, half_of, clock_of, time_of}
use Rattle.dates.proofs.Parsed.{number_took, nothing_took, pick_took, one-took, or-took, then_took, if_let_took, year_keeps}

pub num_took : (reading : Reading) (l : List ℕ) → Took (parsed_number (num_of reading l)) 1 (length l)
num_took reading l = number_took (num_of reading l) (num_read reading l)

-- a test for a lexeme that held
seen : (l : List ℕ) (x : ℕ) → 0 < x → eqb (get l 0) x ≡ true → 0 < length l
seen l x p e = first l (let h = eqb-true (get l 0) x e in omega arith)

-- a test for one of several that held
seen_within : (l : List ℕ) (lo hi : ℕ) → 0 < lo → within lo (get l 0) hi ≡ true → 0 < length l
seen_within l lo hi p e = first l (let b = within_bounds lo (get l 0) hi refl e in omega arith)

-- an article is a lexeme
article_there : (l : List ℕ) → one_if (is_article l) ≤ length l
unfolding is_article get
article_there [] = omega arith
article_there (x ∷ xs) = let h = one-most (is_article (x ∷ xs)) in omega arith

-- the promise of a test for an article
pub tested_article : (l : List ℕ) {r : Bool} → r ≡ is_article l → (r ≡ is_article l) × (one_if r ≤ length l)
tested_article l e = (e, rw e (article_there l))

pub unit_took : (l : List ℕ) → Took (unit_of l) 1 (length l)
unfolding unit_of
unit_took l =
    one-took (eqb (get l 0) lexeme.Day) _ _ (seen l lexeme.Day (omega arith))
    (one-took (eqb (get l 0) lexeme.Week) _ _ (seen l lexeme.Week (omega arith))
    (one-took (eqb (get l 0) lexeme.Month) _ _ (seen l lexeme.Month (omega arith))
    (one-took (eqb (get l 0) lexeme.Year) _ _ (seen l lexeme.Year (omega arith))
    (one-took (eqb (get l 0) lexeme.Minute) _ _ (seen l lexeme.Minute (omega arith))
    (one-took (eqb (get l 0) lexeme.Hour) _ _ (seen l lexeme.Hour (omega arith))
    nothing_took)))))

pub month_took : (l : List ℕ) → Took (month_of l) 1 (length l)
unfolding month_of
month_took l =
    one-took (within lexeme.January (get l 0) lexeme.December) _ _
    (seen_within l lexeme.January lexeme.December (omega arith))
    nothing_took

pub weekday_took : (l : List ℕ) → Took (weekday_of l) 1 (length l)
unfolding weekday_of
weekday_took l =
    one-took (within lexeme.Monday (get l 0) lexeme.Sunday) _ _
    (seen_within l lexeme.Monday lexeme.Sunday (omega arith))
    nothing_took

pub specifier_took : (l : List ℕ) → Took (relative_specifier_of l) 1 (length l)
unfolding relative_specifier_of
specifier_took l =
    one-took (eqb (get l 0) lexeme.This) _ _ (seen l lexeme.This (omega arith))
    (one-took (eqb (get l 0) lexeme.Next) _ _ (seen l lexeme.Next (omega arith))
    (one-took (eqb (get l 0) lexeme.Last) _ _ (seen l lexeme.Last (omega arith))
    nothing_took))

-- behind t lexemes, where those that are left have been read on
reach : (l : List ℕ) (t u : ℕ) → t ≤ length l → u ≤ length (drop t l) → t + u ≤ length l
reach l t u p q = let left = length-drop t l in omega arith

pub minute_took : (reading : Reading) (l : List ℕ) → Took (minute_of reading l) 0 (length l)
unfolding minute_of
minute_took reading l =
    pick_took (is_at l 0 lexeme.Colon) _ _
    (λ e. let room = there (at_most l 0 lexeme.Colon) e in
    if_let_took _ _ _ (num_took reading (drop 1 l))
    (λ min t a b. record { bounds = let h = reach l 1 t (omega arith) b in omega arith })
    (record { bounds = omega arith }))
    (λ e. record { bounds = omega arith })

half_took : (hour minute t : ℕ) (l : List ℕ) → 1 ≤ t → t ≤ length l → Took (half_of hour minute t l) 1 (length l)
unfolding half_of
half_took hour minute t l p q =
    pick_took (is_at l t lexeme.AM) _ _ (λ e. record { bounds = let room = there (at_most l t lexeme.AM) e in omega arith }) (λ e.
    pick_took (is_at l t lexeme.PM) _ _ (λ e. record { bounds = let room = there (at_most l t lexeme.PM) e in omega arith }) (λ e.
    record { bounds = omega arith }))

clock_took : (reading : Reading) (l : List ℕ) → Took (clock_of reading l) 1 (length l)
unfolding clock_of
clock_took reading l =
    then_took _ _ (num_took reading l) (λ hour t a b.
    then_took _ _ (minute_took reading (drop t l)) (λ minute u e f.
    half_took hour minute (t + u) l (omega arith) (reach l t u b f)))

pub time_took : (reading : Reading) (l : List ℕ) → Took (time_of reading l) 1 (length l)
unfolding time_of
time_took reading l =
    one-took (is_at l 0 lexeme.Midnight) _ _ (there (at_most l 0 lexeme.Midnight))
    (one-took (is_at l 0 lexeme.Noon) _ _ (there (at_most l 0 lexeme.Noon))
    (clock_took reading l))

-- where no lexeme is left, no time is read
pub time_none : (reading : Reading) (l : List ℕ) → length l ≡ 0 → time_of reading l ≡ nothing
unfolding get is_at within begins_number clock_of time_of
time_none reading [] h = rw (no_num reading [] refl)
time_none reading (x ∷ xs) h = absurd (omega arith)

named_day_took : (l : List ℕ) → Took (named_day_of l) 1 (length l)
unfolding named_day_of
named_day_took l =
    one-took (is_at l 0 lexeme.Today) _ _ (there (at_most l 0 lexeme.Today))
    (one-took (is_at l 0 lexeme.Tomorrow) _ _ (there (at_most l 0 lexeme.Tomorrow))
    (one-took (is_at l 0 lexeme.Yesterday) _ _ (there (at_most l 0 lexeme.Yesterday))
    nothing_took))

day_month_year_took : (reading : Reading) (l : List ℕ) → Took (day_month_year_of reading l) 1 (length l)
unfolding day_month_year_of
day_month_year_took reading l =
    then_took _ _ (num_took reading l) (λ day t a b.
    then_took _ _ (month_took (drop t l)) (λ month u d e.
    let room = reach l t u b e in
    then_took _ _ (num_took reading (drop (t + u) l)) (λ year v f g.
    record { bounds = let h = reach l (t + u) v room g in omega arith })))

year_took : (reading : Reading) (l : List ℕ) → Took (year_of reading (num_of reading l)) 1 (length l)
year_took reading l = year_keeps (λ p. Took p 1 (length l)) nothing_took reading (num_of reading l) (num_took reading l)

-- a comma that is taken is there
comma_most : (reading : Reading) (l : List ℕ) (t : ℕ) → t + comma_in reading l t ≤ max t (length l)
comma_most First l t = omega arith
comma_most Second l t = at_most l t lexeme.Comma

month_day_took : (reading : Reading) (month : ℕ) (l : List ℕ) → 1 ≤ length l → Took (month_day_of reading month l) 1 (length l)
unfolding month_day_of
month_day_took reading month l p =
    then_took _ _ (num_took reading (drop 1 l)) (λ num t a b.
    let room = reach l 1 t p b in
    let s = 1 + t + comma_in reading l (1 + t) in
    let comma = comma_most reading l (1 + t) in
    if_let_took _ _ _ (year_took reading (drop s l))
    (λ year u d e. record { bounds = let h = reach l s u (omega arith) e in omega arith })
    (record { bounds = omega arith }))

delim_within : (l : List ℕ) (t : ℕ) → is_delim (get l t) ≡ true → t < length l
unfolding is_delim get
delim_within [] t e = let z : ◌≡◌ {A = ℕ} 0 1 = cc in omega arith
delim_within (x ∷ xs) zero e = omega arith
delim_within (x ∷ xs) (suc t) e = let h = delim_within xs t e in omega arith

-- a delimiter is a lexeme
pub delim_there : (l : List ℕ) (t : ℕ) {x : ℕ} {r : Bool} → x ≡ get l t → r ≡ is_delim x → r ≡ true → t < length l
delim_there l t d e h = delim_within l t (rw (← d, ← e) h)

behind_second_took : (reading : Reading) (delim num1 num2 t : ℕ) (l : List ℕ)
    → 1 ≤ t → t ≤ length l → Took (behind_second_of reading delim num1 num2 t l) 1 (length l)
unfolding behind_second_of
behind_second_took reading delim num1 num2 t l p q =
    pick_took (leb (length l) t) _ _ (λ e. nothing_took) (λ e.
    pick_took (is_at l t delim) _ _
    (λ e. let room = there (at_most l t delim) e in
    then_took _ _ (num_took reading (drop (t + 1) l)) (λ num3 u a b.
    record { bounds = let h = reach l (t + 1) u (omega arith) b in omega arith }))
    (λ e. record { bounds = omega arith }))

delimited_took : (reading : Reading) (l : List ℕ) → Took (delimited_of reading l) 1 (length l)
unfolding delimited_of
delimited_took reading l =
    then_took _ _ (num_took reading l) (λ num1 t a b.
    pick_took (is_delim (get l t)) _ _
    (λ e. let room = delim_within l t e in
    then_took _ _ (num_took reading (drop (t + 1) l)) (λ num2 u d f.
    behind_second_took reading _ _ _ (t + 1 + u) l (omega arith) (reach l (t + 1) u (omega arith) f)))
    (λ e. nothing_took))

pub date_took : (reading : Reading) (l : List ℕ) → Took (date_of reading l) 1 (length l)
unfolding date_of
date_took reading l =
    or-took _ _ (named_day_took l)
    (or-took _ _ (day_month_year_took reading l)
    (if_let_took _ _ _ (month_took l) (λ month t a b. month_day_took reading month l (omega arith))
    (delimited_took reading l)))
