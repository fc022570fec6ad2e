-- What a search may leave out: pieces that end too early or begin too late for a second.
use Prim.Native.Nat.{ℕ, zero, suc, ◌+◌, ◌≤◌, ◌<◌}
use native.Mathlib.Omega.{arith}
use mathlib.Core.Path.{◌≡◌, refl}
use mathlib.Core.List.{List, [], ◌∷◌}
use lib.ListN.{drop}
use Rattle.std.proofs.lemmas.Bool.Decides.{nat_tests}
use Rattle.refusals.specs.declared.Reason.TheVariants.{NoInstant}
use Rattle.calendar.specs.Moments.{refused}
use Rattle.tzif.specs.Zones.{Row, Ascending, AllBounded}
use Rattle.zones.specs.Civil.{shift_at, resolve_from}
use Rattle.zones.specs.Search.{passed_by}

-- what k transitions leave behind them, by a field of the last; x where there is none
abbrev pub behind_by : (Row → ℕ) → ℕ → List Row → ℕ → ℕ
behind_by f x rs zero = x
behind_by f x [] (suc k) = x
behind_by f x (r ∷ rs) (suc k) = behind_by f (f r) rs k

abbrev pub at_of : Row → ℕ
at_of r = r.at

abbrev pub shift_of : Row → ℕ
shift_of r = r.shift

-- the offset in force is the one behind the transitions that are passed
pub shift_passed : (o : ℕ) (rs : List Row) (s : ℕ) → shift_at o rs s ≡ behind_by shift_of o rs (passed_by s rs)
shift_passed o [] s = refl
shift_passed o (r ∷ rs) s = let rest = shift_passed r.shift rs s in grind (arith, nat_tests)

-- a piece that ends too early
skip : (from o : ℕ) (r : Row) (rs : List Row) (c : ℕ) → r.at + o ≤ c → resolve_from from o (r ∷ rs) c ≡ resolve_from r.at r.shift rs c
skip from o r rs c h = grind (arith, nat_tests)

-- all pieces that end by e, at least 183,599 before c, can be left out
pub skips : (from o : ℕ) (rs : List Row) (c e : ℕ) → o < 183600 → AllBounded rs → e + 183599 ≤ c
    → resolve_from from o rs c
    ≡ resolve_from (behind_by at_of from rs (passed_by e rs)) (behind_by shift_of o rs (passed_by e rs)) (drop (passed_by e rs) rs) c
skips from o [] c e h b k = refl
skips from o (r ∷ rs) c e h b k =
    let here = skip from o r rs c in
    let rest = skips r.at r.shift rs c e b.0.shift b.1 k in
    grind (arith, nat_tests)

-- and no piece that begins at c or later has it
pub stops : (from o : ℕ) (rs : List Row) (c : ℕ) → 0 < o → AllBounded rs → Ascending from rs → c ≤ from
    → resolve_from from o rs c ≡ refused NoInstant
stops from o [] c h b a k = grind (arith, nat_tests)
stops from o (r ∷ rs) c h b a k =
    let rest = stops r.at r.shift rs c b.0.some b.1 a.1 (omega (arith, a.0)) in
    grind (arith, nat_tests)
