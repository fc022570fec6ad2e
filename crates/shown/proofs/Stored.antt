-- A month's name, and the text behind it: how long that is, and what storing it piece by piece leaves. Assumes nothing.
use Prim.Native.Nat.{ℕ, ◌+◌}
use Prim.Native.Char.{code}
use native.Mathlib.Omega.{arith}
use mathlib.Core.Path.{◌≡◌, refl, ◌∙◌}
use mathlib.Core.List.{List, ◌∷◌, ◌++◌}
use lib.ListN.{length, length-append}
use lib.Seq.{sets}
use Rattle.digits.specs.Bytes.{bytes_of}
use Rattle.digits.specs.Digits.{marked, width_of, decimal_of}
use Rattle.digits.proofs.Stores.{sets-append}
use Rattle.digits.proofs.Widths.{digits_length}
use Rattle.calendar.specs.declared.moments.Moment.{Moment}
use Rattle.shown.specs.Phrases.{rest_text}

-- how long it is
pub rest_length : (t : Moment) → length (rest_text t) ≡ 9 + width_of t.day + width_of t.year + width_of t.hour
rest_length t = simp (length-append, digits_length) (omega arith)

-- a text stored right behind another
behind : (a b l : List ℕ) (i j : ℕ) → j ≡ i + length a → sets (sets l i a) j b ≡ sets l i (a ++ b)
behind a b l i j e = rw (e, sets-append a b l i)

-- a blank and a number, and the place behind them
spaced_length : (n at j : ℕ) → j ≡ at + 1 + width_of n → j ≡ at + length (code " " ∷ decimal_of n)
spaced_length n at j e = omega (arith, digits_length (width_of n) n)

-- day, year, "at", hour and minute, each stored behind the one before
pub rest_stored :
    (t : Moment) (l : List ℕ) (at year link colon : ℕ) → year ≡ at + 1 + width_of t.day → link ≡ year + 1 + width_of t.year →
    colon ≡ link + 4 + width_of t.hour →
    sets
    (sets (sets (sets (sets l at (code " " ∷ decimal_of t.day)) year (code " " ∷ decimal_of t.year)) link (bytes_of " at ")) (link + 4) (decimal_of t.hour))
    colon (marked (code ":") t.minute)
    ≡ sets l at (rest_text t)
rest_stored t l at year link colon p q r =
    let day = code " " ∷ decimal_of t.day in
    let own = code " " ∷ decimal_of t.year in
    let hour = decimal_of t.hour in
    let minute = marked (code ":") t.minute in
    let dated = sets (sets l at day) year own in
    behind hour minute (sets dated link (bytes_of " at ")) (link + 4) colon (omega (arith, digits_length (width_of t.hour) t.hour))
    ∙ behind (bytes_of " at ") (hour ++ minute) dated link (link + 4) refl
    ∙ behind own (bytes_of " at " ++ (hour ++ minute)) (sets l at day) year link (spaced_length t.year year link q)
    ∙ behind day (own ++ (bytes_of " at " ++ (hour ++ minute))) l at year (spaced_length t.day at year p)
