-- A zone of one offset gives, below its last transition, what the fixed offset gives.
use Prim.Native.Nat.{ℕ, ◌+◌, ◌-◌, ◌≤◌, ◌<◌}
use native.Mathlib.Omega.{arith}
use mathlib.Core.Path.{◌≡◌}
use mathlib.Core.List.{List, [], ◌∷◌}
use Rattle.std.proofs.lemmas.Bool.Decides.{nat_tests}
use Rattle.calendar.specs.Moments.{moment}
use Rattle.tzif.specs.Zones.{Row, Zone}
use Rattle.zones.specs.Civil.{shift_at, last_of, resolve_from, civil_of, last_in, resolve}

-- every offset but the one behind the last transition is o
abbrev pub OneOffset : ℕ → List Row → Type 0
OneOffset o [] = Unit
OneOffset o (r ∷ []) = Unit
OneOffset o (r ∷ q ∷ rs) = (r.shift ≡ o) × OneOffset o (q ∷ rs)

-- the offset before the last transition
one_shift : (o from : ℕ) (rs : List Row) (s : ℕ) → OneOffset o rs → from ≤ s → s < last_of from rs → shift_at o rs s ≡ o
one_shift o from [] s h l k = absurd (omega arith)
one_shift o from (r ∷ []) s h l k = grind (arith, nat_tests)
one_shift o from (r ∷ q ∷ rs) s h l k = let rest = one_shift o r.at (q ∷ rs) s h.1 in let same = h.0 in grind (arith, nat_tests)

-- the instant before it
one-resolve : (o from : ℕ) (rs : List Row) (c : ℕ) → OneOffset o rs → from + o ≤ c → c < last_of from rs + o → resolve_from from o rs c ≡ moment (c - o)
one-resolve o from [] c h l k = absurd (omega arith)
one-resolve o from (r ∷ []) c h l k = grind (arith, nat_tests)
one-resolve o from (r ∷ q ∷ rs) c h l k = let rest = one-resolve o r.at (q ∷ rs) c h.1 in let same = h.0 in grind (arith, nat_tests)

module _ (z : Zone) (h : OneOffset z.first z.rows) where
  pub one-civil : (s : ℕ) → s < last_in z → civil_of z s ≡ s + z.first
  one-civil s k = rw (one_shift z.first 0 z.rows s h (omega arith) k)

  pub one-instant : (c : ℕ) → z.first ≤ c → c < last_in z + z.first → resolve z c ≡ moment (c - z.first)
  one-instant c l k = one-resolve z.first 0 z.rows c h (omega arith) k
